-- The bucket that a put took, and an entry's name. Assumes nothing.
use Prim.Native.Nat.{ℕ, ◌+◌, ◌*◌, ◌%◌, ◌≤◌}
use native.Mathlib.Omega.{arith}
use native.Mathlib.Nat.{mod-lt}
use mathlib.Core.Path.{◌≡◌, sym, ap, ap₂, ◌∙◌}
use mathlib.Core.Bool.{Bool, true, false, not, ◌&&◌}
use mathlib.Core.List.{List}
use lib.ListN.{length}
use lib.Dec.{eqb, lit<}
use borrow.Author.Tests.{eq-eqb, ne_eqb}
use Rattle.jhash.specs.NameHash.{hash_of}
use Rattle.image.specs.Bytes.{word}
use Rattle.image.specs.Tables.{start}
use Rattle.image.specs.Zero.{has_zero}
use Rattle.image.specs.Steps.Contracts.{BucketIs, first_empty_before}
use Rattle.canonical.specs.Steps.Checks.{TablesHeld, bucket_taken, in_its_bucket, entry_name, name_ok}

-- ---- an entry in its table

module _ (img : List ℕ) (h at : ℕ) where
  pub bucket_none : (n : ℕ) → n ≡ word img (28 + 8 * (h % 256)) → n ≡ 0 → false ≡ in_its_bucket img h at
  unfolding in_its_bucket
  bucket_none n e z =
      let s = bucket_taken img h at in
      ap (λ (b : Bool). not b && eqb (word img s) h && eqb (word img (s + 4)) at) (sym (eq-eqb (word img (28 + 8 * (h % 256))) 0 (sym e ∙ z)))

  -- its table lies in the image
  pub table_room : {o n : ℕ} → TablesHeld img → o ≡ word img (24 + 8 * (h % 256)) → n ≡ word img (28 + 8 * (h % 256)) → (n ≡ 0 → ⊥) → o + 8 * n ≤ length img
  table_room held eo en nz = omega (arith, held (h % 256) (mod-lt h (lit< tt)) (omega (arith, en, nz)))

  module _ {o n s k : ℕ} (eo : o ≡ word img (24 + 8 * (h % 256))) (en : n ≡ word img (28 + 8 * (h % 256))) (nz : n ≡ 0 → ⊥)
      (es : BucketIs (start h n) n s) (ek : BucketIs (first_empty_before img o n s at) n k) (w : ℕ) (ew : w ≡ word img (o + 8 * k)) where
    taken_is : bucket_taken img h at ≡ o + 8 * k
    taken_is =
        sym
        (ap₂ (λ (x y : ℕ). x + 8 * y) eo
        (ek.is ∙ ap (λ (j : ℕ). first_empty_before img o n j at) es.is
        ∙ ap₂ (λ (x y : ℕ). first_empty_before img x y (start h y) at) eo en))

    -- the bucket's two words answer
    answer : in_its_bucket img h at ≡ (eqb (word img (o + 8 * k)) h && eqb (word img (o + 8 * k + 4)) at)
    unfolding in_its_bucket
    answer =
        ap (λ (s : ℕ). not (eqb (word img (28 + 8 * (h % 256))) 0) && eqb (word img s) h && eqb (word img (s + 4)) at) taken_is
        ∙ rw (ne_eqb (word img (28 + 8 * (h % 256))) 0 (λ z. nz (en ∙ z)))

    pub bucket_other : (w ≡ h → ⊥) → false ≡ in_its_bucket img h at
    bucket_other d = sym (answer ∙ rw (ne_eqb (word img (o + 8 * k)) h (λ y. d (ew ∙ y))))

    pub bucket_last : (v : ℕ) → w ≡ h → v ≡ word img (o + 8 * k + 4) → eqb v at ≡ in_its_bucket img h at
    bucket_last v e ev = ap (λ (x : ℕ). eqb x at) ev ∙ sym (answer ∙ rw (eq-eqb (word img (o + 8 * k)) h (sym ew ∙ e)))

-- ---- an entry's name and bucket

module _ (img : List ℕ) (at n : ℕ) (name : List ℕ) (z : Bool) (is : name ≡ entry_name img at n) (ez : z ≡ has_zero name) where
  zero_is : z ≡ has_zero (entry_name img at n)
  zero_is = ez ∙ ap has_zero is

  pub name_zero : z ≡ true → false ≡ name_ok img at (entry_name img at n)
  name_zero y = ap (λ (b : Bool). not b && in_its_bucket img (hash_of (entry_name img at n)) at) (sym y ∙ zero_is)

  pub name_bucket : (h : ℕ) (s : Bool) → z ≡ false → h ≡ hash_of (entry_name img at n) → s ≡ in_its_bucket img h at → s ≡ name_ok img at (entry_name img at n)
  name_bucket h s y e f =
      f ∙ ap (λ (k : ℕ). in_its_bucket img k at) e
      ∙ ap (λ (b : Bool). not b && in_its_bucket img (hash_of (entry_name img at n)) at) (sym y ∙ zero_is)
