-- Lists of calls by an index, of every length, with growth and indexes made anew between the calls. Assumes nothing.
use Prim.Native.Nat.{ℕ, ◌/◌, ◌≤◌, ◌<◌}
use native.Mathlib.Omega.{arith}
use native.Mathlib.Decide.{ℕ_discrete}
use mathlib.Core.Path.{◌≡◌, refl, sym, ap, ap₂, subst, ◌∙◌}
use mathlib.Core.Bool.{Bool, true, false, cond, ◌&&◌}
use mathlib.Core.List.{List, [], ◌∷◌, ◌++◌, map, append-nil, append_assoc}
use borrow.Author.Tests.{eq-eqb, ne_eqb, eqb-true, le-leb, lt-leb, le-ltb}
use lib.Dec.{eqb, ltb, leb}
use lib.ListN.{length, length-append}
use Rattle.image.specs.declared.Mode.{Mode}
use Rattle.jhash.specs.NameHash.{hash_of}
use Rattle.image.specs.Image.{Entry, head_size, contains_name}
use Rattle.image.specs.Zero.{has_zero}
use Rattle.writer.specs.declared.Repeats.{Repeats}
use Rattle.writer.specs.State.{State, fresh, refuses_repeats, too_large}
use Rattle.writer.specs.Put.{put_refusal, appended, after_put}
use Rattle.writer.specs.Close.{after_close, closed_image}
use Rattle.writer.proofs.Longer.{longer_accepted}
use Rattle.lists.specs.Calls.{Call, put, close, after, answers, accepted_one, accepted_after, accepted_from, accepted, put_due, size_of, due_to, WordIds}
use Rattle.lists.specs.Demand3.{answers_of, after_list, accepted_puts, image_of}
use Rattle.lists.specs.Theorems.LongerBuffer.{moved_to}
use Rattle.lists.proofs.ListWritten.{Written}
use Rattle.lists.proofs.ListPuts.{put_due_lem}
use Rattle.lists.proofs.ListCloses.{close_accepted, close_written}
use Rattle.lists.proofs.CallLists.{list_answers, list_accepted}
use Rattle.index.specs.Index.{slot_count, first_empty_slot, slot_inserted, seeks, Right, indexed_refusal, after_indexed, index_refusal}
use Rattle.index.specs.Promise.{PutIndexed, Indexed}
use Rattle.index.specs.Theorems.ListsByIndex.{Step, call, grow, anew, calls_of, Run, due_to_indexed, due_to_anew, due_indexed}
use Rattle.index.specs.Theorems.ListsByIndex.{Plain, plain_after, plain_from, Enough, NoneFull, RunByIndex, RunOfCalls, ListsByIndex}
use Rattle.index.proofs.Insert.{length_stored}
use Rattle.index.proofs.PlainLists.{cons, more, Left, left_written, left_call, left_grown}
use Rattle.index.proofs.RightKept.{right_written, right_moved}

-- ---- one put

-- no call is due 24 without an index
due_below : (mode : Mode) (repeats : Repeats) (n : ℕ) (es : List Entry) (c : Call) → due_to mode repeats n es c < 24
unfolding put_due
due_below mode repeats n es close = omega arith
due_below mode repeats n es (put e) =
    by_checks (has_zero e.name) (contains_name e.name es && refuses_repeats repeats) (too_large n (size_of mode (es ++ (e ∷ []))))
  where
    by_checks : (z d t : Bool) → cond {A = ℕ} z 13 (cond d 16 (cond t 3 0)) < 24
    by_checks true d t = omega arith
    by_checks false true t = omega arith
    by_checks false false true = omega arith
    by_checks false false false = omega arith

-- a put by a right index of m slots after the accepted puts es
module _ {m : ℕ} {mode : Mode} {repeats : Repeats} {n : ℕ} {es : List Entry} {s : State} {words : List ℕ} {e : Entry} {r : ℕ} {u : State}
    {mid : List ℕ} (w : Written mode repeats n es s) (right : Right s words) (size : slot_count words ≡ m) (p : PutIndexed s words e r u mid) where
  rule : Bool → ℕ → ℕ → ℕ → ℕ
  rule b q k l = cond (b && (eqb q 0 && leb k l)) 24 q

  answer_is : r ≡ due_to_indexed m mode repeats n es (put e)
  unfolding indexed_refusal rule
  answer_is =
      p.answer right
      ∙ ap₂ (λ (b : Bool) (q : ℕ). rule b q (slot_count words) s.writer.entries) (ap refuses_repeats w.repeats_is) (put_due_lem mode repeats n es s w e)
      ∙ ap₂ (rule (refuses_repeats repeats) (put_due mode repeats n es e)) size w.entries

  -- with the answer that is due without an index it leaves what a put without one does
  state_is : due_to_indexed m mode repeats n es (put e) ≡ put_due mode repeats n es e → u ≡ after_put s e
  unfolding after_indexed after_put
  state_is same =
      p.leaves right
      ∙ ap (λ (q : ℕ). cond (eqb q 0) (appended s e) s) (sym (p.answer right) ∙ answer_is ∙ same ∙ sym (put_due_lem mode repeats n es s w e))

-- the number of slots stays
size_kept : {s : State} {words : List ℕ} {e : Entry} {r : ℕ} {u : State} {mid : List ℕ} → PutIndexed s words e r u mid → slot_count mid ≡ slot_count words
size_kept {s} {words} {e} {r} {u} {mid} p =
    elim (ℕ_discrete r 0) [
      | yes z ↦ ap slot_count (p.accepted z).1 ∙ by_choice (seeks s)
      | no n ↦ ap slot_count (p.refused n).1
    ]
  where
    by_choice : (b : Bool) → slot_count (cond b (slot_inserted words (hash_of e.name) s.writer.end) words) ≡ slot_count words
    by_choice true = ap (λ (l : ℕ). l / 2) (length_stored words (first_empty_slot words (hash_of e.name)) (hash_of e.name) s.writer.end)
    by_choice false = refl

-- ---- every list

module _ (mode : Mode) (repeats : Repeats) where
  -- what the list of demand 3 that a run comes to answers and leaves
  record Comes (l : Plain) (t : State) : Type 0 where
    same_answers : answers_of mode repeats l.buffer l.calls ≡ l.answers
    leaves : t ≡ after_list mode repeats l.buffer l.calls

  record Along (m n : ℕ) (es : List Entry) (l : Plain) (cs : List Step) (rs : List ℕ) (t : State) (words' : List ℕ) : Type 0 where
    answered : rs ≡ due_indexed m mode repeats n es cs
    comes : Comes (plain_from l cs rs) t
    right : Right t words'

  -- one step: what is due to it, and the list without an index after it
  step : {m n m' n' : ℕ} {es fs : List Entry} {l l' : Plain} {cs : List Step} {rs : List ℕ} {t : State} {words' : List ℕ} (c : Step) (r : ℕ)
      → plain_after l c r ≡ l' → cons r (due_indexed m' mode repeats n' fs cs) ≡ due_indexed m mode repeats n es (c ∷ cs)
      → Along m' n' fs l' cs rs t words' → Along m n es l (c ∷ cs) (r ∷ rs) t words'
  unfolding plain_from
  step {cs = cs} {rs = rs} {t = t} c r plain-is due_is rest =
      record {
        answered = ap (cons r) rest.answered ∙ due_is;
        comes = subst (λ (q : Plain). Comes (plain_from q cs rs) t) (sym plain-is) rest.comes;
        right = rest.right;
      }

  -- a call keeps its place in that list unless it is answered by 24
  kept_call : (l : Plain) (c : Call) {r : ℕ} → (r ≡ 24 → ⊥) → plain_after l (call c) r ≡ more l c r
  kept_call l c {r} other = ap (λ (b : Bool). cond b l (more l c r)) (ne_eqb r 24 other)

  -- the index with which the list goes on after one was made in `lent`: the new one, or where it is refused the old one
  record NextIndex (m : ℕ) (es : List Entry) (s : State) (lent words : List ℕ) (r : ℕ) : Type 0 where
    is : r ≡ due_to_anew (slot_count lent) es
    right : Right s words
    size : slot_count words ≡ cond (eqb (due_to_anew (slot_count lent) es) 0) (slot_count lent) m

  next_index : {m : ℕ} {es : List Entry} {s : State} {words lent made : List ℕ} {r n : ℕ} → Written mode repeats n es s → Right s words
      → slot_count words ≡ m → Indexed s lent r made → NextIndex m es s lent (cond (eqb r 0) made words) r
  unfolding index_refusal
  next_index {m} {es} {s} {words} {lent} {made} {r} {n} w right size ix =
      let goes = by_answer (eqb r 0) refl in
      record { is = is; right = goes.0; size = goes.1 ∙ ap (λ (q : ℕ). cond (eqb q 0) (slot_count lent) m) is }
    where
      is : r ≡ due_to_anew (slot_count lent) es
      is =
          ix.answer
          ∙ ap₂ (λ (k entries : ℕ). cond (eqb k 0 && ltb (slot_count lent) entries) 24 k) (close_accepted mode repeats n es s w) w.entries

      by_answer : (b : Bool) → eqb r 0 ≡ b → Right s (cond b made words) × (slot_count (cond b made words) ≡ cond b (slot_count lent) m)
      by_answer true z = (ix.right (eqb-true r 0 z) w.tables, ap (λ (k : ℕ). k / 2) ix.long)
      by_answer false z = (right, size)

  along : (cs : List Step) (m : ℕ) (l : Plain) (es : List Entry) (s : State) (words : List ℕ) → Left mode repeats l es s → Right s words
      → slot_count words ≡ m → WordIds mode (calls_of cs)
      → (rs : List ℕ) (t : State) (words' : List ℕ) → Run s words cs rs t words' → Along m (length l.buffer) es l cs rs t words'
  unfolding due_indexed plain_from
  along [] m l es s words left right size word [] t words' run =
      record {
        answered = refl;
        comes = record { same_answers = left.answers; leaves = run.0 ∙ left.state };
        right = subst (λ (u : State). Right u words') (sym run.0) (subst (Right s) (sym run.1) right);
      }
  along [] m l es s words left right size word (r ∷ rs) t words' run = absurd run
  along (c ∷ cs) m l es s words left right size word [] t words' run = absurd run
  along (call close ∷ cs) m l es s words left right size word (r ∷ rs) t words' run =
      let n = length l.buffer in
      let w = left_written mode repeats left in
      let none = close_accepted mode repeats n es s w in
      let still = right_written right w (close_written mode repeats n es s w) in
      step (call close) r (kept_call l close (λ z. omega (arith, z, run.0, none)))
      (ap (λ (q : ℕ). cons q (due_indexed m mode repeats n (es ++ []) cs)) (run.0 ∙ none))
      (along cs m (more l close r) (es ++ []) (after_close s) words (left_call mode repeats left close r run.0 word.0) still size word.1
      rs t words' run.1)
  along (grow longer ∷ cs) m l es s words left right size word (r ∷ rs) t words' (at, is, run) =
      let n = length l.buffer in
      let w = left_written mode repeats left in
      let taken : r ≡ 0 = is ∙ sym (longer_accepted s.writer (length longer) at.long).0 in
      let still = right_moved right w longer at in
      step (grow longer) r refl (ap (λ (q : ℕ). cons q (due_indexed m mode repeats (length longer) es cs)) taken)
      (along cs m (plain_after l (grow longer) r) es (moved_to longer s) words (left_grown mode repeats left longer at) still size word rs t words' run)
  along (anew lent ∷ cs) m l es s words left right size word (r ∷ rs) t words' (made, ix, run) =
      let next = next_index (left_written mode repeats left) right size ix in
      let m' = cond (eqb (due_to_anew (slot_count lent) es) 0) (slot_count lent) m in
      step (anew lent) r refl (ap (λ (q : ℕ). cons q (due_indexed m' mode repeats (length l.buffer) es cs)) next.is)
      (along cs m' l es s (cond (eqb r 0) made words) left next.right next.size word rs t words' run)
  along (call (put e) ∷ cs) m l es s words left right size word (r ∷ rs) t words' (u, mid, p, run) =
      let goes : (l' : Plain) (fs : List Entry) → Left mode repeats l' fs u → Along m (length l'.buffer) fs l' cs rs t words' =
      λ l' fs v. along cs m l' fs u mid v (p.right right) (size_kept p ∙ size) word.1 rs t words' run in
      let w = left_written mode repeats left in
      by_full goes (answer_is w right size p) (state_is w right size p) p.refused (refuses_repeats repeats && (eqb due 0 && leb m (length es))) refl
    where
      due : ℕ
      due = put_due mode repeats (length l.buffer) es e

      asked : ℕ
      asked = due_to_indexed m mode repeats (length l.buffer) es (put e)

      by_full : ((l' : Plain) (fs : List Entry) → Left mode repeats l' fs u → Along m (length l'.buffer) fs l' cs rs t words')
          → r ≡ asked → (asked ≡ due → u ≡ after_put s e) → ((r ≡ 0 → ⊥) → (u ≡ s) × (mid ≡ words))
          → (b : Bool) → (refuses_repeats repeats && (eqb due 0 && leb m (length es))) ≡ b
          → Along m (length l.buffer) es l (call (put e) ∷ cs) (r ∷ rs) t words'
      by_full goes is state kept true full =
          let due_is : asked ≡ 24 = ap (λ (b : Bool). cond b 24 due) full in
          let same : es ≡ es ++ accepted_one (put e) asked = sym (ap (λ (q : ℕ). es ++ accepted_one (put e) q) due_is ∙ append-nil es) in
          step (call (put e)) r (ap (λ (b : Bool). cond b l (more l (put e) r)) (eq-eqb r 24 (is ∙ due_is)))
          (ap₂ (λ (q : ℕ) (fs : List Entry). cons q (due_indexed m mode repeats (length l.buffer) fs cs)) is same)
          (goes l es (subst (Left mode repeats l es) (sym (kept (λ z. omega (arith, z, is, due_is))).0) left))
      by_full goes is state kept false some =
          let n = length l.buffer in
          let due_is : asked ≡ due = ap (λ (b : Bool). cond b 24 due) some in
          let put_is : r ≡ put_refusal s e = is ∙ due_is ∙ sym (put_due_lem mode repeats n es s (left_written mode repeats left) e) in
          step (call (put e)) r (kept_call l (put e) (λ z. omega (arith, z, is, due_is, due_below mode repeats n es (put e))))
          (ap₂ (λ (q x : ℕ). cons q (due_indexed m mode repeats n (es ++ accepted_one (put e) x) cs)) is (sym due_is))
          (goes (more l (put e) r) (accepted_after mode repeats n es (put e))
          (subst (Left mode repeats (more l (put e) r) (accepted_after mode repeats n es (put e))) (sym (state due_is))
          (left_call mode repeats left (put e) r put_is word.0)))

  -- ---- enough slots

  enough_none : (cs : List Step) (m n : ℕ) (es : List Entry) → Enough m mode repeats n es cs → NoneFull (due_indexed m mode repeats n es cs)
  unfolding due_indexed
  enough_none [] m n es h = tt
  enough_none (call c ∷ cs) m n es h =
      let is = same c h.0 in (
        (λ z. omega (arith, z, is, due_below mode repeats n es c)),
        subst (λ (q : ℕ). NoneFull (due_indexed m mode repeats n (es ++ accepted_one c q) cs)) (sym is)
            (enough_none cs m n (accepted_after mode repeats n es c) h.1),
      )
    where
      same : (c : Call) → (refuses_repeats repeats ≡ true → length (accepted_after mode repeats n es c) ≤ m)
          → due_to_indexed m mode repeats n es c ≡ due_to mode repeats n es c
      same close few = refl
      same (put e) few = by_due (refuses_repeats repeats) refl (eqb (put_due mode repeats n es e) 0) refl
        where
          by_due : (q : Bool) → refuses_repeats repeats ≡ q → (b : Bool) → eqb (put_due mode repeats n es e) 0 ≡ b
              → due_to_indexed m mode repeats n es (put e) ≡ put_due mode repeats n es e
          by_due true off true x =
              let one : length (accepted_after mode repeats n es (put e)) ≡ length (es ++ (e ∷ [])) = ap (λ (b : Bool). length (es ++ cond b (e ∷ []) [])) x in
              rw (off, x, lt-leb m (length es) (omega (arith, one, length-append es (e ∷ []), few off))) refl
          by_due true off false x = rw (off, x) refl
          by_due false on b x = rw on refl
  enough_none (grow longer ∷ cs) m n es h = ((λ z. omega (arith, z)), enough_none cs m (length longer) es h)
  enough_none (anew lent ∷ cs) m n es h =
      let none : due_to_anew (slot_count lent) es ≡ 0 = ap (λ (b : Bool). cond {A = ℕ} b 24 0) (le-ltb (slot_count lent) (length es) h.0) in (
        (λ z. omega (arith, z, none)),
        subst (λ (q : ℕ). NoneFull (due_indexed (cond (eqb q 0) (slot_count lent) m) mode repeats n es cs)) (sym none)
            (enough_none cs (slot_count lent) n es h.1),
      )

  -- ---- puts and closes alone

  module _ (n : ℕ) where
    longer_list : (cs : List Call) (es : List Entry) → length es ≤ length (accepted_from mode repeats n es cs)
    unfolding accepted_from
    longer_list [] es = omega arith
    longer_list (c ∷ cs) es =
        omega (arith, longer_list cs (accepted_after mode repeats n es c), length-append es (accepted_one c (due_to mode repeats n es c)))

    enough_calls : (m : ℕ) (cs : List Call) (es : List Entry) → (refuses_repeats repeats ≡ true → length (accepted_from mode repeats n es cs) ≤ m)
        → Enough m mode repeats n es (map call cs)
    unfolding accepted_from
    enough_calls m [] es few = tt
    enough_calls m (c ∷ cs) es few =
        let more = longer_list cs (accepted_after mode repeats n es c) in
        ((λ off. omega (arith, more, few off)), enough_calls m cs (accepted_after mode repeats n es c) few)

    length_due : (m : ℕ) (cs : List Call) (es : List Entry) → length (due_indexed m mode repeats n es (map call cs)) ≡ length cs
    unfolding due_indexed
    length_due m [] es = refl
    length_due m (c ∷ cs) es = omega (arith, length_due m cs (es ++ accepted_one c (due_to_indexed m mode repeats n es c)))

    -- once every slot is taken
    full_due : (m : ℕ) (es : List Entry) → refuses_repeats repeats ≡ true → m ≤ length es → (c : Call)
        → es ++ accepted_one c (due_to_indexed m mode repeats n es c) ≡ es
    full_due m es off l close = append-nil es
    full_due m es off l (put e) = by_due (eqb (put_due mode repeats n es e) 0) refl
      where
        by_due : (b : Bool) → eqb (put_due mode repeats n es e) 0 ≡ b → es ++ accepted_one (put e) (due_to_indexed m mode repeats n es (put e)) ≡ es
        by_due true x = rw (off, x, le-leb m (length es) l) (append-nil es)
        by_due false x = rw (off, x, x) (append-nil es)

    each_full : (m : ℕ) (cs : List Call) (es : List Entry) → refuses_repeats repeats ≡ true → m ≤ length es
        → due_indexed m mode repeats n es (map call cs) ≡ map (due_to_indexed m mode repeats n es) cs
    unfolding due_indexed
    each_full m [] es off l = refl
    each_full m (c ∷ cs) es off l =
        ap (cons (due_to_indexed m mode repeats n es c))
        (ap (λ (fs : List Entry). due_indexed m mode repeats n fs (map call cs)) (full_due m es off l c) ∙ each_full m cs es off l)

-- nothing is left out
plain_calls : (l : Plain) (cs : List Call) (rs : List ℕ) → length rs ≡ length cs → NoneFull rs
    → plain_from l (map call cs) rs ≡ record { buffer = l.buffer; calls = l.calls ++ cs; answers = l.answers ++ rs }
unfolding plain_from
plain_calls l [] [] same none =
    λ i. record { buffer = l.buffer; calls = sym (append-nil l.calls) i; answers = sym (append-nil l.answers) i }
plain_calls l [] (r ∷ rs) same none = absurd (omega arith)
plain_calls l (c ∷ cs) [] same none = absurd (omega arith)
plain_calls l (c ∷ cs) (r ∷ rs) same none =
    ap (λ (b : Bool). plain_from (cond b l (more l c r)) (map call cs) rs) (ne_eqb r 24 none.0)
    ∙ plain_calls (more l c r) cs rs (omega arith) none.1
    ∙ regrouped
  where
    regrouped : ◌≡◌ {A = Plain} (record { buffer = l.buffer; calls = (l.calls ++ (c ∷ [])) ++ cs; answers = (l.answers ++ (r ∷ [])) ++ rs })
        (record { buffer = l.buffer; calls = l.calls ++ (c ∷ cs); answers = l.answers ++ (r ∷ rs) })
    regrouped =
        λ i. record {
          buffer = l.buffer;
          calls = append_assoc l.calls (c ∷ []) cs i;
          answers = append_assoc l.answers (r ∷ []) rs i;
        }

calls_back : (cs : List Call) → calls_of (map call cs) ≡ cs
calls_back [] = refl
calls_back (c ∷ cs) = ap (λ (l : List Call). c ∷ l) (calls_back cs)

-- ---- from a fresh record

module _ (mode : Mode) (repeats : Repeats) (buffer words : List ℕ) (rs : List ℕ) (t : State) (words' : List ℕ) (room : head_size ≤ length buffer)
    (right : Right (fresh mode repeats buffer) words) where
  -- no call yet
  abbrev none_yet : Plain
  none_yet = record { buffer = buffer; calls = []; answers = [] }

  fresh_left : Left mode repeats none_yet [] (fresh mode repeats buffer)
  unfolding after answers accepted accepted_from
  fresh_left = record { state = refl; answers = refl; room = room; word = tt; puts = refl }

  by_index : (cs : List Step) → WordIds mode (calls_of cs) → Run (fresh mode repeats buffer) words cs rs t words'
      → RunByIndex mode repeats buffer words cs rs t words'
  by_index cs word run =
      let a = along mode repeats cs (slot_count words) none_yet [] (fresh mode repeats buffer) words fresh_left right refl word rs t words' run in
      record {
        answered = a.answered;
        same_answers = a.comes.same_answers;
        leaves = a.comes.leaves;
        right = a.right;
        enough = λ few. subst NoneFull (sym a.answered) (enough_none mode repeats cs (slot_count words) (length buffer) [] few);
      }

  of_calls : (cs : List Call) → WordIds mode cs → Run (fresh mode repeats buffer) words (map call cs) rs t words'
      → (refuses_repeats repeats ≡ true → length (accepted_puts mode repeats buffer cs) ≤ slot_count words) → RunOfCalls mode repeats buffer cs rs t
  unfolding accepted image_of
  of_calls cs word run few =
      let n = length buffer in
      let a = by_index (map call cs) (subst (WordIds mode) (sym (calls_back cs)) word) run in
      let some : refuses_repeats repeats ≡ true → length (accepted_from mode repeats n [] cs) ≤ slot_count words =
      λ off. omega (arith, few off, ap length (list_accepted mode repeats buffer room cs word)) in
      let none = a.enough (enough_calls mode repeats n (slot_count words) cs [] some) in
      let whole = plain_calls none_yet cs rs (ap length a.answered ∙ length_due mode repeats n (slot_count words) cs []) none in
      let left : t ≡ after_list mode repeats buffer cs = a.leaves ∙ ap (λ (l : Plain). after_list mode repeats l.buffer l.calls) whole in
      let answers_are : rs ≡ answers_of mode repeats buffer cs =
      sym (sym (ap (λ (l : Plain). answers_of mode repeats l.buffer l.calls) whole) ∙ a.same_answers ∙ ap (λ (l : Plain). l.answers) whole) in
      record {
        due_is = answers_are ∙ list_answers mode repeats buffer room cs word;
        answers = answers_are;
        leaves = left;
        image = ap closed_image left;
      }

pub lists_by_index : ListsByIndex
lists_by_index =
    record {
      runs = λ mode repeats buffer words cs rs t words' room word right run. by_index mode repeats buffer words rs t words' room right cs word run;
      calls = λ mode repeats buffer words cs rs t words' room word right run few.
          of_calls mode repeats buffer words rs t words' room right cs word run few;
      from_then = λ m mode repeats n es cs off l. each_full mode repeats n m cs es off l;
    }
