-- The words of a place: stored and read; the answers of listed names, and of duplicates. Assumes nothing.
use Prim.Native.Nat.{ℕ, zero, suc, ◌+◌, ◌*◌, ◌-◌, ◌≤◌, ◌<◌}
use native.Mathlib.Omega.{arith}
use native.Mathlib.Decide.{ℕ_discrete}
use mathlib.Core.Path.{◌≡◌, refl, sym, ap, subst, ◌∙◌}
use mathlib.Core.List.{List, [], ◌∷◌, ◌++◌}
use lib.ListN.{length, get_or, set, take, drop, length-set, length-take, length-drop, take-append-drop}
use lib.Seq.{get_or-set_same, get_or-set_other, get_or-take, get_or-drop, ext_get_or}
use Rattle.image.specs.Bytes.{cat}
use Rattle.reader.specs.Lookup.{Lookup, found, nothing, lookup_by, lookup}
use Rattle.reader.proofs.Searches.{lookup_own}
use Rattle.image.proofs.NameEnds.{length_names}
use Rattle.jhash.proofs.Outcomes.{hash_or_zero_short}
use Rattle.batch.specs.RoundNames.{nth}
use Rattle.batch.specs.Round.{answer_words}
use Rattle.batch.specs.declared.names.Round.{Round}
use Rattle.batch.specs.Steps.HashedNames.{hash_or_zero, HashedNames}
use Rattle.batch.specs.Steps.Duplicates.{round_names, Listed, RisingTo, IsFirst, IsUnique}
use Rattle.batch.specs.Steps.Answers.{put_words, words_in, HasPlace, Has, HasAnswer, ListedNames, Answered, UniqueAnswered, Source}
use Rattle.batch.proofs.IndexLists.{listed_more, listed_has}

-- ---- words stored in a place and read

module _ (l : List ℕ) (i : ℕ) (ws : List ℕ) where
  abbrev l₁ : List ℕ
  l₁ = set l (4 * i) (get_or ws 0 0)

  abbrev l₂ : List ℕ
  l₂ = set l₁ (4 * i + 1) (get_or ws 1 0)

  abbrev l₃ : List ℕ
  l₃ = set l₂ (4 * i + 2) (get_or ws 2 0)

  -- a word elsewhere stays, behind the first of them, the second, and so on
  other₁ : (p : ℕ) → (p ≡ 4 * i → ⊥) → get_or l₁ p 0 ≡ get_or l p 0
  other₁ p n = get_or-set_other l (4 * i) p (get_or ws 0 0) 0 n

  other₂ : (p : ℕ) → (p ≡ 4 * i + 1 → ⊥) → get_or l₂ p 0 ≡ get_or l₁ p 0
  other₂ p n = get_or-set_other l₁ (4 * i + 1) p (get_or ws 1 0) 0 n

  other₃ : (p : ℕ) → (p ≡ 4 * i + 2 → ⊥) → get_or l₃ p 0 ≡ get_or l₂ p 0
  other₃ p n = get_or-set_other l₂ (4 * i + 2) p (get_or ws 2 0) 0 n

  other₄ : (p : ℕ) → (p ≡ 4 * i + 3 → ⊥) → get_or (put_words l i ws) p 0 ≡ get_or l₃ p 0
  other₄ p n = get_or-set_other l₃ (4 * i + 3) p (get_or ws 3 0) 0 n

  has_stored : HasPlace l i → Has (put_words l i ws) i ws
  has_stored room zero h =
      let e : 4 * i + 0 ≡ 4 * i = omega arith in
      ap (λ (p : ℕ). get_or (put_words l i ws) p 0) e
      ∙ other₄ (4 * i) (λ z. omega arith) ∙ other₃ (4 * i) (λ z. omega arith) ∙ other₂ (4 * i) (λ z. omega arith)
      ∙ get_or-set_same l (4 * i) (get_or ws 0 0) 0 (omega arith)
  has_stored room (suc zero) h =
      other₄ (4 * i + 1) (λ z. omega arith) ∙ other₃ (4 * i + 1) (λ z. omega arith)
      ∙ get_or-set_same l₁ (4 * i + 1) (get_or ws 1 0) 0 (simp length-set (omega arith))
  has_stored room (suc (suc zero)) h =
      other₄ (4 * i + 2) (λ z. omega arith) ∙ get_or-set_same l₂ (4 * i + 2) (get_or ws 2 0) 0 (simp length-set (omega arith))
  has_stored room (suc (suc (suc zero))) h = get_or-set_same l₃ (4 * i + 3) (get_or ws 3 0) 0 (simp length-set (omega arith))
  has_stored room (suc (suc (suc (suc w)))) h = absurd (omega arith)

  has_other : (j : ℕ) (vs : List ℕ) → (j ≡ i → ⊥) → Has l j vs → Has (put_words l i ws) j vs
  has_other j vs other has w h =
      let p = 4 * j + w in
      other₄ p (λ z. other (omega arith)) ∙ other₃ p (λ z. other (omega arith)) ∙ other₂ p (λ z. other (omega arith)) ∙ other₁ p (λ z. other (omega arith))
      ∙ has w h

  -- of a place that should hold what is stored there, or held its own before
  pub has_after : HasPlace l i → (j : ℕ) (vs : List ℕ) → (j ≡ i → (w : ℕ) → w < 4 → get_or ws w 0 ≡ get_or vs w 0) → ((j ≡ i → ⊥) → Has l j vs)
      → Has (put_words l i ws) j vs
  has_after room j vs new old =
      elim (ℕ_discrete j i) [
        | yes e ↦ λ w h. ap (λ (k : ℕ). get_or (put_words l i ws) (4 * k + w) 0) e ∙ has_stored room w h ∙ new e w h
        | no e ↦ has_other j vs e (old e)
      ]

pub length_put : (l : List ℕ) (i : ℕ) (ws : List ℕ) → length (put_words l i ws) ≡ length l
length_put l i ws = simp length-set

-- the words in a place
words_at : (l : List ℕ) (i w : ℕ) → w < 4 → get_or (words_in l i) w 0 ≡ get_or l (4 * i + w) 0
words_at l i zero h = let e : 4 * i ≡ 4 * i + 0 = omega arith in ap (λ (p : ℕ). get_or l p 0) e
words_at l i (suc zero) h = refl
words_at l i (suc (suc zero)) h = refl
words_at l i (suc (suc (suc zero))) h = refl
words_at l i (suc (suc (suc (suc w)))) h = absurd (omega arith)

-- ---- places in a row

-- a list whose places hold these words, four to an element
pub placed_words : {A : Type 0} (d : A) (f : A → List ℕ) → ((x : A) → length (f x) ≡ 4) → (xs : List A) (l : List ℕ) → length l ≡ 4 * length xs
    → ((i : ℕ) → i < length xs → Has l i (f (get_or xs i d))) → l ≡ cat f xs
unfolding cat
placed_words d f four [] [] e has = refl
placed_words d f four [] (y ∷ l) e has = absurd (omega arith)
placed_words d f four (x ∷ xs) l e has =
    sym (take-append-drop 4 l)
    ∙ ap (λ (r : List ℕ). r ++ drop 4 l)
    (ext_get_or 0 (take 4 l) (f x) (size ∙ sym (four x)) (λ w h. get_or-take 4 l w 0 (omega (arith, size))
    ∙ first w (has 0 (omega arith) w (omega (arith, size)))))
    ∙ ap (λ (r : List ℕ). f x ++ r)
    (placed_words d f four xs (drop 4 l) (omega (arith, length-drop 4 l)) (λ i k w q. shift i w (has (suc i) (omega arith) w q)))
  where
    size : length (take 4 l) ≡ 4
    size = omega (arith, length-take 4 l)

    first : (w : ℕ) → get_or l (4 * 0 + w) 0 ≡ get_or (f x) w 0 → get_or l w 0 ≡ get_or (f x) w 0
    first w p = let e : w ≡ 4 * 0 + w = omega arith in ap (λ (k : ℕ). get_or l k 0) e ∙ p

    shift : (i w : ℕ) → get_or l (4 * suc i + w) 0 ≡ get_or (f (get_or xs i d)) w 0 → get_or (drop 4 l) (4 * i + w) 0 ≡ get_or (f (get_or xs i d)) w 0
    shift i w p =
        let s : 4 + (4 * i + w) ≡ 4 * suc i + w = omega arith in
        get_or-drop 4 l (4 * i + w) 0 ∙ ap (λ (k : ℕ). get_or l k 0) s ∙ p

-- ---- answers

pub length_words : (x : Lookup) → length (answer_words x) ≡ 4
length_words (found f) = refl
length_words (nothing n) = refl

-- a lookup with a name's hash is the name's
by_hash : (image name x : List ℕ) (h : ℕ) → name ≡ x → h ≡ hash_or_zero x → lookup_by image name h ≡ lookup image x
by_hash image name x h e k =
    ap (λ (l : List ℕ). lookup_by image l h) e ∙ lookup_own image x h (λ short. k ∙ hash_or_zero_short x short)

-- the first x of m listed names have their answers
pub record Finding (round : Round) (list before after : List ℕ) (x : ℕ) : Type 0 where
  pub inside : x ≤ length list
  pub long : length after ≡ length before
  pub answered : Answered round list before after x

pub finding_start : (round : Round) (list before : List ℕ) → Finding round list before before 0
finding_start round list before =
    record {
      inside = omega arith;
      long = refl;
      answered = record { stays = λ i r. r; stored = λ y h. absurd (omega arith); others = λ i n w h. sym (words_at before i w h) };
    }

pub finding_end : {round : Round} {list before after : List ℕ} {x : ℕ} → Finding round list before after x → length list ≤ x
    → Answered round list before after (length list)
finding_end f all =
    record {
      stays = f.answered.stays;
      stored = λ y h. f.answered.stored y (omega arith);
      others = λ i n. f.answered.others i (λ a. n (listed_more f.inside a));
    }

module _ {round : Round} {list before : List ℕ} (pre : ListedNames round list before) where
  -- no two of the listed names are equal
  pub no_two_equal : (x y : ℕ) → x < y → y < length list → nth (round_names round) (get_or list x 0) ≡ nth (round_names round) (get_or list y 0) → ⊥
  no_two_equal x y h k = pre.first y k (get_or list x 0) (pre.rising x y h k)

  -- some of them, in another list that rises
  pub listed_part : {part after : List ℕ} → length after ≡ length before → length part ≤ length list → RisingTo part (length part)
      → ((z : ℕ) → z < length part → Listed list (length list) (get_or part z 0)) → ListedNames round part after
  listed_part long few rising listed =
      record {
        first = λ z h. listed_has (IsFirst (round_names round)) pre.first (listed z h);
        rising = rising;
        places = omega (arith, pre.places);
        few = omega (arith, pre.few);
        below = λ z h. listed_has (λ (i : ℕ). i < length round.names.ends.now) pre.below (listed z h);
      }

  -- one more has its answer, which was looked up with its hash; what has its answer keeps it, and the other places are kept
  pub finding_step : HashedNames round.names.bytes.now round.names.ends.now round.hashes.now → {answers after name : List ℕ} {x : ℕ} (v : Lookup)
      → x < length list → name ≡ nth (round_names round) (get_or list x 0)
      → v ≡ lookup_by round.image.now name (get_or round.hashes.now (get_or list x 0) 0) → after ≡ put_words answers (get_or list x 0) (answer_words v)
      → Finding round list before answers x → Finding round list before after (x + 1)
  finding_step hashed {answers} {after} {name} {x} v h is answer stored old =
      subst (λ (r : List ℕ). Finding round list before r (x + 1)) (sym stored)
      (record {
        inside = omega arith;
        long = length_put answers i (answer_words v) ∙ old.long;
        answered = record { stays = λ j r. stays j (λ e. old.answered.stays j r); stored = all; others = others };
      })
    where
      xs : List (List ℕ)
      xs = round_names round

      i : ℕ
      i = get_or list x 0

      own : v ≡ lookup round.image.now (nth xs i)
      own = answer ∙ by_hash round.image.now name (nth xs i) (get_or round.hashes.now i 0) is
          (hashed.hashed i (omega (arith, length_names round.names.bytes.now round.names.ends.now, pre.below x h)))

      stays : (j : ℕ) → ((j ≡ i → ⊥) → HasAnswer round.image.now xs answers j) → HasAnswer round.image.now xs (put_words answers i (answer_words v)) j
      stays j r =
          has_after answers i (answer_words v) (omega (arith, pre.below x h, pre.places, old.long)) j (answer_words (lookup round.image.now (nth xs j)))
          (λ e w k. ap (λ (a : Lookup). get_or (answer_words a) w 0) (own ∙ ap (λ (n : ℕ). lookup round.image.now (nth xs n)) (sym e))) r

      all : (y : ℕ) → y < x + 1 → HasAnswer round.image.now xs (put_words answers i (answer_words v)) (get_or list y 0)
      all y k =
          stays (get_or list y 0)
          (λ other. elim (ℕ_discrete y x) [ yes e ↦ absurd (other (ap (λ (n : ℕ). get_or list n 0) e)) | no e ↦ old.answered.stored y (omega arith) ])

      others : (j : ℕ) → (Listed list (x + 1) j → ⊥) → Has (put_words answers i (answer_words v)) j (words_in before j)
      others j n =
          has_other answers i (answer_words v) j (words_in before j) (λ e. n (record { place = x; inside = omega arith; is = sym e }))
          (old.answered.others j (λ a. n (listed_more (omega arith) a)))

-- ---- the answers of some of the listed names, and then of others

-- what is kept of the places: those that were right, and those of names that are not listed
pub record Kept (round : Round) (list before after : List ℕ) (m : ℕ) : Type 0 where
  pub stays : (i : ℕ) → HasAnswer round.image.now (round_names round) before i → HasAnswer round.image.now (round_names round) after i
  pub others : (i : ℕ) → (Listed list m i → ⊥) → Has after i (words_in before i)

pub kept_start : (round : Round) (list before : List ℕ) (m : ℕ) → Kept round list before before m
kept_start round list before m = record { stays = λ i r. r; others = λ i n w h. sym (words_at before i w h) }

pub kept_step : {round : Round} {list part before answers after : List ℕ} {m q : ℕ} → ((z : ℕ) → z < q → Listed list m (get_or part z 0))
    → Kept round list before answers m → Answered round part answers after q → Kept round list before after m
kept_step {list = list} {answers = answers} {m = m} listed old new =
    record {
      stays = λ i r. new.stays i (old.stays i r);
      others = λ i n w h. new.others i (λ a. n (listed_has (Listed list m) listed a)) w h ∙ words_at answers i w h ∙ old.others i n w h;
    }

-- ---- the answers of duplicates

-- the places below i have their answers, and so have those of unique names
pub record Copied (image : List ℕ) (xs : List (List ℕ)) (equals answers : List ℕ) (n i : ℕ) : Type 0 where
  pub passed : (j : ℕ) → j < i → HasAnswer image xs answers j
  pub unique : (j : ℕ) → j < n → IsUnique equals j → HasAnswer image xs answers j

module _ {image : List ℕ} {xs : List (List ℕ)} {equals before l : List ℕ} {n i from : ℕ} (u : UniqueAnswered image xs equals before n)
    (source : Source i (get_or equals i 0) from) (inside : i < n) (places : 4 * n ≤ length l) (old : Copied image xs equals l n i) where
  abbrev words : ℕ → List ℕ
  words j = answer_words (lookup image (nth xs j))

  -- what is copied is the answer of the i-th name
  source_has : Has l from (words i)
  source_has =
      elim (ℕ_discrete (get_or equals i 0) 0) [
        | yes z ↦ subst (λ (j : ℕ). Has l j (words i)) (sym (source.own z)) (old.unique i inside z)
        | no z ↦ earlier (omega arith)
      ]
    where
      earlier : 0 < get_or equals i 0 → Has l from (words i)
      earlier q =
          let e = source.earlier q in
          let f : from ≡ get_or equals i 0 - 1 = omega arith in
          let same_name : nth xs from ≡ nth xs i = ap (nth xs) f ∙ (u.equal i inside).there q in
          subst (λ (x : List ℕ). Has l from (answer_words (lookup image x))) same_name
          (old.passed from (omega (arith, (u.equal i inside).below)))

  pub copied_step : Copied image xs equals (put_words l i (words_in l from)) n (i + 1)
  copied_step =
      record {
        passed = λ j k. after j (λ other. old.passed j (omega arith));
        unique = λ j k z. after j (λ other. old.unique j k z);
      }
    where
      after : (j : ℕ) → ((j ≡ i → ⊥) → HasAnswer image xs l j) → HasAnswer image xs (put_words l i (words_in l from)) j
      after j r =
          has_after l i (words_in l from) (omega arith) j (words j)
          (λ e w k. words_at l from w k ∙ source_has w k ∙ ap (λ (m : ℕ). get_or (words m) w 0) (sym e)) r
