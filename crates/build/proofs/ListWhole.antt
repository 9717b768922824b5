-- What a list leaves, by either way: the image, what is behind it, and the answers. Assumes nothing.
use Prim.Native.Nat.{ℕ, zero, suc, ◌+◌, ◌-◌, ◌^◌, ◌≤◌, ◌<◌}
use native.Mathlib.Omega.{arith}
use native.Mathlib.Decide.{dec_lt}
use mathlib.Core.Path.{◌≡◌, refl, sym, ap, ap₂, ◌∙◌}
use mathlib.Core.Bool.{Bool, true, false, ◌||◌}
use lib.Dec.{eqb}
use mathlib.Core.List.{List, [], ◌∷◌, ◌++◌}
use lib.ListN.{length, get_or, take, drop, replicate, length-replicate, get_or-replicate, length-drop, take-append-drop, get_or-eq_default}
use lib.Seq.{ext_get_or, get_or-take, get_or-drop, length-take-le, take-take, take_at, drop_at}
use Rattle.image.specs.declared.Mode.{Mode}
use Rattle.image.specs.Bytes.{same}
use Rattle.image.specs.Image.{Entry, head_size, image_size, image}
use Rattle.image.proofs.AllOfList.{All}
use Rattle.image.proofs.Sizes.{length_image}
use Rattle.image.specs.Zero.{has_zero}
use Rattle.image.proofs.Bools.{or_false_first, or_false_second}
use Rattle.image.proofs.Between.{between_same}
use Rattle.image.specs.PackedNames.{names, nth, invalid_ends, begin_of}
use Rattle.image.proofs.NameEnds.{length_names, nth_name, begin_next, begins_rise}
use Rattle.writer.specs.declared.CQDBWriter.{CQDBWriter}
use Rattle.serialize.specs.Steps.Meeting.{Pairwise, Distinct}
use Rattle.writer.specs.declared.Repeats.{Repeats}
use Rattle.writer.specs.State.{State, state_with, fresh, refuses_repeats, fresh_writer}
use Rattle.writer.specs.Put.{entry_of}
use Rattle.writer.specs.Close.{close_refusal, closed_size, after_close}
use Rattle.lists.specs.Calls.{Call, accepted, due, size_of, puts, WordIds}
use Rattle.lists.specs.Demand3.{answers_of, after_list, accepted_puts, image_of}
use Rattle.lists.proofs.Appended.{size_of_is}
use Rattle.lists.proofs.ListWritten.{Written}
use Rattle.lists.proofs.ListCloses.{close_accepted, close_closed, closed_buffer}
use Rattle.lists.proofs.CallLists.{list_accepted, list_written}
use Rattle.lists.proofs.Theorem.{calls_answered}
use Rattle.build.specs.declared.Made.{Made}
use Rattle.build.specs.Build.{listed, build_refusal, made_of}
use Rattle.build.specs.Steps.Capacity.{RoomForAll}
use Rattle.build.specs.Steps.Steps.{ListPre, ListBuilt, KeptBehind, Finished}
use Rattle.build.specs.Steps.Stores.{list_entries, NoZeros}
use Rattle.build.proofs.Whole.{refusal_none, answers_are, built_made}
use Rattle.build.proofs.Listed.{nth_listed}
use Rattle.build.proofs.CallsLeft.{drop_later, puts_keep, accepted_most}
use Rattle.build.proofs.AllPut.{number_all, word_ids, accepted_all, answers_none}

-- ---- lists of words and of names

-- the refusals: cleared, with what is behind them as it was
pub refusals_cleared : (n : ℕ) (before places : List ℕ) {xs : List ℕ} → n ≤ length before → xs ≡ replicate (length (take n before)) 0
    → drop n before ≡ drop n places → xs ++ drop n before ≡ replicate n 0 ++ drop n places
refusals_cleared n before places inside zeros rest =
    ap₂ {C = List ℕ} (λ (a b : List ℕ). a ++ b) (zeros ∙ ap (λ (k : ℕ). replicate k 0) (length-take-le n before inside)) rest

-- names of bytes without a zero byte
zero_free_take : (n : ℕ) (l : List ℕ) → has_zero l ≡ false → has_zero (take n l) ≡ false
unfolding has_zero
zero_free_take zero l e = refl
zero_free_take (suc n) [] e = refl
zero_free_take (suc n) (b ∷ l) e =
    ap₂ {C = Bool} (λ (x y : Bool). x || y) (or_false_first (eqb b 0) (has_zero l) e) (zero_free_take n l (or_false_second (eqb b 0) (has_zero l) e))

zero_free_drop : (n : ℕ) (l : List ℕ) → has_zero l ≡ false → has_zero (drop n l) ≡ false
unfolding has_zero
zero_free_drop zero l e = e
zero_free_drop (suc n) [] e = refl
zero_free_drop (suc n) (b ∷ l) e = zero_free_drop n l (or_false_second (eqb b 0) (has_zero l) e)

pub names_zero_free : (bytes ends : List ℕ) → invalid_ends (length bytes) 0 ends ≡ false → (last : ℕ) → last ≡ begin_of ends (length ends)
    → has_zero (take last bytes) ≡ false → NoZeros bytes ends
names_zero_free bytes ends good last is e j h =
    let from = begin_of ends j in
    let to = get_or ends j 0 in
    let up : to ≤ last = omega (arith, is, begin_next ends j, begins_rise (length bytes) ends good (length ends) (j + 1) (omega arith) (omega arith)) in
    ap has_zero (nth_name bytes ends j h ∙ sym (between_same (take last bytes) bytes to (take-take to last bytes up) from))
    ∙ zero_free_take (to - from) (drop from (take last bytes)) (zero_free_drop from (take last bytes) e)

-- of each two in a list
each_nth : {A : Type 0} (P : A → Type 0) (xs : List A) (d : A) → All P xs → (i : ℕ) → i < length xs → P (get_or xs i d)
each_nth P [] d all i h = absurd (omega arith)
each_nth P (x ∷ xs) d all zero h = all.0
each_nth P (x ∷ xs) d all (suc i) h = each_nth P xs d all.1 i (omega arith)

pairwise_nth : {A : Type 0} (R : A → A → Type 0) (xs : List A) (d : A) → Pairwise R xs → (i j : ℕ) → j < i → i < length xs → R (get_or xs j d) (get_or xs i d)
pairwise_nth R [] d two i j h k = absurd (omega arith)
pairwise_nth R (x ∷ xs) d two zero j h k = absurd (omega arith)
pairwise_nth R (x ∷ xs) d two (suc i) zero h k = each_nth (R x) xs d two.0 i (omega arith)
pairwise_nth R (x ∷ xs) d two (suc i) (suc j) h k = pairwise_nth R xs d two.1 i j (omega arith) (omega arith)

-- a record that was begun is fresh
pub begun_fresh : (mode : Mode) (repeats : Repeats) (buffer counts : List ℕ) (w : CQDBWriter) → counts ≡ replicate 256 0
    → w ≡ fresh_writer mode repeats (length buffer) → state_with w counts buffer ≡ fresh w.mode w.repeats buffer
unfolding fresh
begun_fresh mode repeats buffer counts w z e =
    ap₂ (λ (x : CQDBWriter) (c : List ℕ). state_with x c buffer) e z ∙ sym (ap (λ (x : CQDBWriter). fresh x.mode x.repeats buffer) e)

-- words that are all cleared
pub all_zero : (n : ℕ) {l : List ℕ} → l ≡ replicate n 0 → (i : ℕ) → get_or l i 0 ≡ 0
all_zero n zeros i =
    elim (dec_lt i n) [
      | yes p ↦ ap (λ (l : List ℕ). get_or l i 0) zeros ∙ get_or-replicate n i 0 0 p
      | no p ↦ let past : length (replicate n 0) ≤ i = omega (arith, length-replicate {A = ℕ} n 0) in
          ap (λ (l : List ℕ). get_or l i 0) zeros ∙ get_or-eq_default (replicate n 0) 0 {n = i} past
    ]

-- ---- the list

module _ (mode : Mode) (repeats : Repeats) (bytes : List ℕ) {buffer ends ids refusals : List ℕ} (pre : ListPre buffer ends ids refusals)
    (good : invalid_ends (length bytes) 0 ends ≡ false)
    (words : (i : ℕ) → i < length ends → get_or ids i 0 < 2 ^ 32) where
  abbrev cs : List Call
  cs = listed bytes ends ids

  abbrev n : ℕ
  n = length buffer

  abbrev L : State
  L = after_list mode repeats buffer cs

  word : WordIds mode cs
  word = word_ids mode (names bytes ends) ids (λ i h. words i (omega (arith, length_names bytes ends)))

  left_written : Written mode repeats n (accepted mode repeats n cs) L
  left_written = list_written mode repeats buffer pre.head_fits cs word

  pub list_closes : {s : State} → s ≡ after_list mode repeats buffer (listed bytes ends ids) → close_refusal s ≡ 0
  list_closes is = ap close_refusal is ∙ close_accepted mode repeats n (accepted mode repeats n cs) L left_written

  ok : build_refusal bytes ends (length ids) (length refusals) (length buffer) ≡ 0
  ok = refusal_none bytes ends (length ids) (length refusals) (length buffer) good pre.ids_long pre.refusals_long pre.head_fits

  -- the bytes behind an image of all names
  pub closed_behind : KeptBehind mode bytes ends ids buffer (after_close (after_list mode repeats buffer (listed bytes ends ids))).buffer
  unfolding fresh accepted
  closed_behind =
      let es = accepted mode repeats n cs in
      let k = image_size mode (puts cs) in
      let most = accepted_most mode repeats n [] (names bytes ends) ids in
      ap (λ (t : State). drop k t.buffer) (close_closed mode repeats n es L left_written)
      ∙ ap (drop k) (closed_buffer mode repeats n es L left_written)
      ∙ drop_later (image mode es ++ drop (image_size mode es) L.buffer) L.buffer (image_size mode es) k most
      (drop_at (image mode es) (drop (image_size mode es) L.buffer) (image_size mode es) (length_image mode es))
      ∙ puts_keep (fresh mode repeats buffer) (names bytes ends) ids k (omega arith)

  -- one by one
  pub list_built : {s : State} → s ≡ after_list mode repeats buffer (listed bytes ends ids) → {m : Made} {bufferThen refusalsThen : List ℕ}
      → Finished s m bufferThen → refusalsThen ≡ answers_of mode repeats buffer (listed bytes ends ids) ++ drop (length ends) refusals
      → ListBuilt mode repeats buffer bytes ends ids refusals m bufferThen refusalsThen
  unfolding image_of
  list_built {s} is {m} {bufferThen} {refusalsThen} done told =
      let leaves = done.leaves ∙ ap (λ (t : State). (after_close t).buffer) is in
      let put = list_accepted mode repeats buffer pre.head_fits cs word in
      let counted = ap (λ (t : State). t.writer.entries) is ∙ left_written.entries ∙ ap length (sym put) in
      record {
        gives = built_made mode repeats buffer bytes ends ids refusals ok m (done.size ∙ ap closed_size is) (done.accepted ∙ counted);
        imaged = ap (take (closed_size L)) leaves;
        behind = ap (drop (image_size mode (puts cs))) leaves ∙ closed_behind;
        answers = told ∙ sym (answers_are mode repeats buffer bytes ends ids refusals ok);
      }

  -- after a trial that left what is behind an image of all names, and behind the answers
  pub built_after : {buffer' refusals' : List ℕ} → length buffer' ≡ length buffer → KeptBehind mode bytes ends ids buffer buffer'
      → length refusals' ≡ length refusals → drop (length ends) refusals' ≡ drop (length ends) refusals → {made : Made} {bufferThen refusalsThen : List ℕ}
      → ListBuilt mode repeats buffer' bytes ends ids refusals' made bufferThen refusalsThen
      → ListBuilt mode repeats buffer bytes ends ids refusals made bufferThen refusalsThen
  unfolding made_of
  built_after {buffer'} {refusals'} size kept long tail {made = _} {bufferThen} {refusalsThen} done =
      let room' : head_size ≤ length buffer' = omega (arith, size, pre.head_fits) in
      let ok' : build_refusal bytes ends (length ids) (length refusals') (length buffer') ≡ 0 =
      ap₂ (λ (p b : ℕ). build_refusal bytes ends (length ids) p b) long size ∙ ok in
      let told = calls_answered mode repeats buffer cs pre.head_fits word in
      let told' = calls_answered mode repeats buffer' cs room' word in
      let alike : accepted_puts mode repeats buffer' cs ≡ accepted_puts mode repeats buffer cs =
      told'.decided ∙ ap (λ (k : ℕ). accepted mode repeats k cs) size ∙ sym told.decided in
      let answered : answers_of mode repeats buffer' cs ≡ answers_of mode repeats buffer cs =
      told'.answered ∙ ap (λ (k : ℕ). due mode repeats k cs) size ∙ sym told.answered in
      let sized = told'.sized ∙ ap (size_of mode) alike ∙ sym told.sized in
      let made = made_of mode repeats buffer' cs in
      record {
        gives =
            done.gives
            ∙ sym (built_made mode repeats buffer' bytes ends ids refusals' ok' made refl refl)
            ∙ built_made mode repeats buffer bytes ends ids refusals ok made sized (ap length alike);
        imaged = ap (λ (k : ℕ). take k bufferThen) (sym sized) ∙ done.imaged ∙ told'.imaged ∙ ap (image mode) alike ∙ sym told.imaged;
        behind = done.behind ∙ kept;
        answers =
            done.answers
            ∙ answers_are mode repeats buffer' bytes ends ids refusals' ok'
            ∙ ap₂ {C = List ℕ} (λ (a b : List ℕ). a ++ b) answered tail
            ∙ sym (answers_are mode repeats buffer bytes ends ids refusals ok);
      }

-- ---- the direct path: no put is refused

module _ (mode : Mode) (repeats : Repeats) (bytes : List ℕ) {buffer ends ids refusals : List ℕ} (pre : ListPre buffer ends ids refusals)
    (good : invalid_ends (length bytes) 0 ends ≡ false)
    (fits : RoomForAll mode ends ids (length buffer)) (words : (i : ℕ) → i < length ends → get_or ids i 0 < 2 ^ 32) (clean : NoZeros bytes ends) where
  abbrev es : List Entry
  es = list_entries bytes ends ids

  distinct_names : Distinct (list_entries bytes ends ids) → (i j : ℕ) → j < i → i < length ends
      → same (nth (names bytes ends) j) (nth (names bytes ends) i) ≡ false
  distinct_names two i j h k =
      let number = number_all bytes ends ids good pre.ids_long in
      let many : length (names bytes ends) ≤ length ids = omega (arith, length_names bytes ends, pre.ids_long) in
      let none = entry_of [] 0 in
      let its : (m : ℕ) → m < length ends → (get_or es m none).name ≡ nth (names bytes ends) m = λ m b.
      ap (λ (e : Entry). e.name) (nth_listed (names bytes ends) ids m none many (omega (arith, length_names bytes ends))) in
      ap₂ same (sym (its j (omega arith))) (sym (its i k))
      ∙ pairwise_nth (λ (x y : Entry). same x.name y.name ≡ false) es none two i j h (omega (arith, number))

  pub all_built : (refuses_repeats repeats ≡ true → Distinct (list_entries bytes ends ids)) → {size : ℕ} {bufferThen refusalsThen : List ℕ}
      → size ≡ image_size mode (list_entries bytes ends ids)
      → bufferThen ≡ image mode (list_entries bytes ends ids) ++ drop (image_size mode (list_entries bytes ends ids)) buffer
      → KeptBehind mode bytes ends ids buffer bufferThen → refusalsThen ≡ replicate (length ends) 0 ++ drop (length ends) refusals
      → ListBuilt mode repeats buffer bytes ends ids refusals (record { size = size; accepted = length ends }) bufferThen refusalsThen
  all_built apart {size} sized leaves behind cleared =
      let many = pre.ids_long in
      let room = pre.head_fits in
      let cs = listed bytes ends ids in
      let word = word_ids mode (names bytes ends) ids (λ i h. words i (omega (arith, length_names bytes ends))) in
      let told = calls_answered mode repeats buffer cs room word in
      let all = accepted_all mode repeats buffer bytes ends ids good many room fits words clean (λ off. distinct_names (apart off)) in
      let size_is : closed_size (after_list mode repeats buffer cs) ≡ image_size mode es = told.sized ∙ ap (size_of mode) all ∙ size_of_is mode es in
      let ok = refusal_none bytes ends (length ids) (length refusals) (length buffer) good many pre.refusals_long room in
      record {
        gives = built_made mode repeats buffer bytes ends ids refusals ok (record { size = size; accepted = length ends })
            (sized ∙ sym size_is) (sym (ap length all ∙ number_all bytes ends ids good many));
        imaged =
            ap₂ take size_is leaves
            ∙ take_at (image mode es) (drop (image_size mode es) buffer) (image_size mode es) (length_image mode es)
            ∙ sym (told.imaged ∙ ap (image mode) all);
        behind = behind;
        answers =
            cleared
            ∙ ap (λ (l : List ℕ). l ++ drop (length ends) refusals)
            (sym (answers_none mode repeats buffer bytes ends ids good many room fits words clean (λ off. distinct_names (apart off))))
            ∙ sym (answers_are mode repeats buffer bytes ends ids refusals ok);
      }
