-- One id in two images: what the test of their namings tells, and the upper bound. Assumes nothing.
use Prim.Native.Nat.{ℕ, ◌+◌, ◌*◌, ◌-◌, ◌≤◌}
use native.Mathlib.Omega.{arith}
use mathlib.Core.Path.{◌≡◌, refl, sym, ap, ◌∙◌}
use mathlib.Core.Logic.{◌↔◌}
use mathlib.Core.Bool.{Bool, true, false, cond, not}
use mathlib.Core.List.{List}
use mathlib.Core.Option.{Option, none, some}
use borrow.Author.Tests.{le-leb, not-false}
use lib.Dec.{leb}
use Rattle.image.specs.Bytes.{word}
use Rattle.image.specs.Head.{back_size_at, back_offset_at}
use Rattle.image.proofs.Bools.{false_not_true}
use Rattle.image.proofs.Equal.{same_self, same_true}
use Rattle.reader.specs.Naming.{Naming, unnamed, no_back, naming_at, naming, bytes_at, name_given}
use Rattle.reader.specs.IdWalk.{upper_hint}
use Rattle.changes.specs.Changes.{upper, equal_namings, differs}

-- ---- the test by the two names

pub differs_by : (old new : List ℕ) (id : ℕ) (a b : Option (List ℕ)) → a ≡ name_given old id → b ≡ name_given new id
    → not (equal_namings a b) ≡ differs old new id
unfolding differs
differs_by old new id a b e f = λ i. not (equal_namings (e i) (f i))

-- ---- what the test tells

same_names_self : (a : Option (List ℕ)) → equal_namings a a ≡ true
same_names_self none = refl
same_names_self (some a) = same_self a

equal_same : (a b : Option (List ℕ)) → a ≡ b → equal_namings a b ≡ true
equal_same a b e = ap (equal_namings a) (sym e) ∙ same_names_self a

same_equal : (a b : Option (List ℕ)) → equal_namings a b ≡ true → a ≡ b
same_equal none none e = refl
same_equal none (some b) e = absurd (false_not_true e)
same_equal (some a) none e = absurd (false_not_true e)
same_equal (some a) (some b) e = ap some (same_true a b e)

pub alike_exactly : (old new : List ℕ) (id : ℕ) → (differs old new id ≡ false) ↔ (name_given old id ≡ name_given new id)
unfolding differs
alike_exactly old new id =
    ((λ e. same_equal (name_given old id) (name_given new id) (not-false _ e)), (λ e. ap not (equal_same (name_given old id) (name_given new id) e)))

pub differs_exactly : (old new : List ℕ) (id : ℕ) → (differs old new id ≡ true) ↔ ¬ (name_given old id ≡ name_given new id)
differs_exactly old new id = ((λ e q. false_not_true (sym ((alike_exactly old new id).1 q) ∙ e)), (λ h. answer_true h (differs old new id) refl))
  where
    answer_true : ¬ (name_given old id ≡ name_given new id) → (t : Bool) → differs old new id ≡ t → t ≡ true
    answer_true h true e = refl
    answer_true h false e = absurd (h ((alike_exactly old new id).0 e))

-- the order of the images does not matter
same_names_sym : (a b : Option (List ℕ)) → equal_namings a b ≡ equal_namings b a
same_names_sym a b = same_answer (equal_namings a b) (equal_namings b a) refl refl
  where
    same_answer : (s t : Bool) → equal_namings a b ≡ s → equal_namings b a ≡ t → s ≡ t
    same_answer true true p q = refl
    same_answer false false p q = refl
    same_answer true false p q = absurd (false_not_true (sym q ∙ equal_same b a (sym (same_equal a b p))))
    same_answer false true p q = absurd (false_not_true (sym p ∙ equal_same a b (sym (same_equal b a q))))

pub differs_sym : (old new : List ℕ) (id : ℕ) → differs new old id ≡ differs old new id
unfolding differs
differs_sym old new id = ap not (same_names_sym (name_given new id) (name_given old id))

-- ---- the upper bound

pub upper_sym : (old new : List ℕ) → upper new old ≡ upper old new
unfolding upper
upper_sym old new = omega arith

-- at the upper hint and above it an image names nothing
pub above : (image : List ℕ) (id : ℕ) → upper_hint image 0 ≤ id → naming image id ≡ unnamed
unfolding upper_hint naming
above image id h = unnamed_above (no_back image) h
  where
    at : Naming
    at = naming_at image (word image (back_offset_at image + 4 * id))

    unnamed_above : (t : Bool) → cond t 0 (back_size_at image - 0) ≤ id → cond t unnamed (cond (leb (back_size_at image) id) unnamed at) ≡ unnamed
    unnamed_above true h = refl
    unnamed_above false h = ap (λ (t : Bool). cond t unnamed at) (le-leb (back_size_at image) id (omega (arith, h)))

pub none_above : (old new : List ℕ) (id : ℕ) → upper old new ≤ id → (name_given old id ≡ none) × (name_given new id ≡ none)
unfolding upper
none_above old new id h = (ap (bytes_at old) (above old id (omega (arith, h))), ap (bytes_at new) (above new id (omega (arith, h))))
