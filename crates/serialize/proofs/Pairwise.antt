-- What holds of each two elements of a list, and of those that pass a test. Assumes nothing.
use Rattle.std.proofs.Common.{◌≡◌, Bool, true, false, cond, List, [], ◌∷◌, ◌++◌, map}
use Rattle.image.specs.Bytes.{filter}
use Rattle.image.proofs.AllOfList.{All, all_append}
use Rattle.image.proofs.Bools.{false_not_true}
use Rattle.serialize.specs.Steps.Meeting.{Pairwise}
use Rattle.serialize.proofs.Choices.{cond_holds}

pub all_before : {A : Type 0} (P : A → Type 0) (xs ys : List A) → All P (xs ++ ys) → All P xs
all_before P [] ys all = tt
all_before P (x ∷ xs) ys all = (all.0, all_before P xs ys all.1)

-- one more at the end
pub pairwise_more : {A : Type 0} (R : A → A → Type 0) (xs : List A) (y : A) → Pairwise R xs → All (λ (x : A). R x y) xs → Pairwise R (xs ++ y ∷ [])
pairwise_more R [] y two one = (tt, tt)
pairwise_more R (x ∷ xs) y two one =
    (all_append (R x) xs (y ∷ []) two.0 (one.0, tt), pairwise_more R xs y two.1 one.1)

-- what holds of those that pass a test
pub all_tested : {A B : Type 0} (P : B → Type 0) (f : A → B) (test : A → Bool) (xs : List A) → All P (map f (filter test xs))
    → All (λ (x : A). test x ≡ true → P (f x)) xs
unfolding filter
all_tested P f test [] all = tt
all_tested {A} P f test (x ∷ xs) all = first (test x) (all_tested P f test xs) all
  where
    first : (t : Bool) {Q : Type 0} → (All P (map f (filter test xs)) → Q) → All P (map f (cond t (x ∷ filter test xs) (filter test xs)))
        → (t ≡ true → P (f x)) × Q
    first true rest all = (λ e. all.0, rest all.1)
    first false rest all = (λ e. absurd (false_not_true e), rest all)

-- of two lists, the first of which passes
pub pairwise_rest : {A B : Type 0} (R : B → B → Type 0) (f : A → B) (test : A → Bool) (x : A) (xs : List A)
    → Pairwise R (map f (filter test (x ∷ xs))) → Pairwise R (map f (filter test xs))
unfolding filter
pairwise_rest {A} R f test x xs =
    cond_holds (λ (l : List A). Pairwise R (map f l) → Pairwise R (map f (filter test xs))) (test x) (λ two. two.1) (λ two. two)
