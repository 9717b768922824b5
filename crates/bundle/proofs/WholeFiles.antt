-- Whole files: the positions that have an image, and the count. Assumes nothing.
use Prim.Native.Nat.{ℕ, zero, suc, ◌+◌, ◌*◌, ◌/◌, ◌-◌, ◌<◌}
use native.Mathlib.Omega.{arith}
use mathlib.Core.Path.{◌≡◌, sym, ap, ◌∙◌}
use mathlib.Core.Logic.{◌⊎◌, inl, inr}
use mathlib.Core.List.{List}
use lib.ListN.{length}
use Rattle.jhash.specs.Outcome.{value, refusal}
use Rattle.jhash.proofs.ValueOrRefusal.{no_value, same_value, same_refusal}
use Rattle.bundle.specs.FileWalk.{Place, size_at, place_from, place_of_image, count_images_from, counting}
use Rattle.bundle.specs.Theorems.Bundles.{HoldsImages}
use Rattle.bundle.proofs.FileSteps.{Begins, Met, ended, broke, began, met}
use Rattle.bundle.proofs.FileWalks.{place_ended, place_broke, place_here, place_next, count_ended, count_broke, count_next, count_over}

ten_eleven : ◌≡◌ {A = ℕ} 10 11 → ⊥
ten_eleven z = omega arith

module _ (file : List ℕ) where
  -- no image from here on: the file's end is here
  pub none_ends : (at : ℕ) → HoldsImages file at 0 → at ≡ length file
  none_ends at f = ends_where_none (met file at)
    where
      ends_where_none : Met file at → at ≡ length file
      ends_where_none (ended e) = e
      ends_where_none (broke n b) = absurd (ten_eleven (same_refusal 10 11 (sym (place_broke file at 0 n b) ∙ f.ends)))
      ends_where_none (began b) = absurd (no_value 11 (record { start = at; size = size_at file at }) (sym f.ends ∙ place_here file at b))

  -- one more: an image begins here, and the others follow it
  pub some_begins : (at n : ℕ) → HoldsImages file at (suc n) → Begins file at
  some_begins at n f = begins_where_placed (met file at) (f.each 0 (omega arith))
    where
      begins_where_placed : Met file at → (p : Place) × (place_from file at 0 ≡ value p) → Begins file at
      begins_where_placed (ended e) (p, q) = absurd (no_value 11 p (sym (place_ended file at 0 e) ∙ q))
      begins_where_placed (broke n b) (p, q) = absurd (no_value 10 p (sym (place_broke file at 0 n b) ∙ q))
      begins_where_placed (began b) q = b

  pub holds_next : (at n : ℕ) → Begins file at → HoldsImages file at (suc n) → HoldsImages file (at + size_at file at) n
  holds_next at n b f = record {
    each = λ k l. ((f.each (suc k) (omega (arith, l))).0, sym (place_next file at k b) ∙ (f.each (suc k) (omega (arith, l))).1);
    ends = sym (place_next file at n b) ∙ f.ends;
  }

  pub holds_before : (at n : ℕ) → Begins file at → HoldsImages file (at + size_at file at) n → HoldsImages file at (suc n)
  holds_before at n b f = record { each = each; ends = place_next file at n b ∙ f.ends }
    where
      each : (k : ℕ) → k < suc n → (p : Place) × (place_from file at k ≡ value p)
      each zero l = (record { start = at; size = size_at file at }, place_here file at b)
      each (suc k) l = let r = f.each k (omega (arith, l)) in (r.0, place_next file at k b ∙ r.1)

  -- every walk comes to the file's end or breaks off, within as many steps as heads have room
  abbrev pub Comes : ℕ → Type 0
  Comes at = ((n : ℕ) × HoldsImages file at n) ⊎ ((k : ℕ) × (place_from file at k ≡ refusal 10))

  comes_here : (at : ℕ) → Met file at → (Begins file at → Comes at) → Comes at
  comes_here at (ended e) more = inl (0, record { each = λ k l. absurd (omega (arith, l)); ends = place_ended file at 0 e })
  comes_here at (broke n b) more = inr (0, place_broke file at 0 n b)
  comes_here at (began b) more = more b

  comes_next : (at : ℕ) → Begins file at → Comes (at + size_at file at) → Comes at
  comes_next at b (inl f) = inl (suc f.0, holds_before at f.0 b f.1)
  comes_next at b (inr e) = inr (suc e.0, place_next file at e.0 b ∙ e.1)

  comes : (m at : ℕ) → length file - at < 2072 * suc m → Comes at
  comes zero at h = comes_here at (met file at) (λ b. absurd (omega (arith, h, b.inside, b.large)))
  comes (suc m) at h =
      comes_here at (met file at) (λ b. comes_next at b (comes m (at + size_at file at) (omega (arith, h, b.inside, b.large))))

  -- what is counted in each case
  counts : (n m at c : ℕ) → HoldsImages file at n → length file - at < 2072 * suc m → count_images_from m file at c ≡ value (c + n)
  counts zero m at c f h =
      let z : c ≡ c + 0 = omega arith in
      count_ended file at m c (none_ends at f) ∙ ap value z
  counts (suc n) zero at c f h = let b = some_begins at n f in absurd (omega (arith, h, b.inside, b.large))
  counts (suc n) (suc m) at c f h =
      let b = some_begins at n f in
      let s : suc c + n ≡ c + suc n = omega arith in
      count_next file at m c b ∙ counts n m (at + size_at file at) (suc c) (holds_next at n b f) (omega (arith, h, b.inside, b.large)) ∙ ap value s

  broken_here : (k m at c : ℕ) → place_from file at k ≡ refusal 10 → Met file at → (Begins file at → count_images_from m file at c ≡ refusal 10)
      → count_images_from m file at c ≡ refusal 10
  broken_here k m at c e (ended q) more = absurd (ten_eleven (same_refusal 10 11 (sym e ∙ place_ended file at k q)))
  broken_here k m at c e (broke n b) more = count_broke file at m c n b
  broken_here k m at c e (began b) more = more b

  breaks_off : (k m at c : ℕ) → place_from file at k ≡ refusal 10 → count_images_from m file at c ≡ refusal 10
  breaks_off zero m at c e =
      broken_here 0 m at c e (met file at) (λ b. absurd (no_value 10 (record { start = at; size = size_at file at }) (sym e ∙ place_here file at b)))
  breaks_off (suc k) zero at c e = broken_here (suc k) 0 at c e (met file at) (λ b. count_over file at c b)
  breaks_off (suc k) (suc m) at c e =
      broken_here (suc k) (suc m) at c e (met file at)
      (λ b. count_next file at m c b ∙ breaks_off k m (at + size_at file at) (suc c) (sym (place_next file at k b) ∙ e))

  enough : length file - 0 < 2072 * suc (length file / 2072)
  enough = omega arith

  -- the count, both ways
  pub count_holds : (n : ℕ) → HoldsImages file 0 n → counting file ≡ value n
  count_holds n f = let z : 0 + n ≡ n = omega arith in counts n (length file / 2072) 0 0 f enough ∙ ap value z

  pub count_broken : (k : ℕ) → place_of_image file k ≡ refusal 10 → counting file ≡ refusal 10
  count_broken k e = breaks_off k (length file / 2072) 0 0 e

  pub holds_count : (n : ℕ) → counting file ≡ value n → HoldsImages file 0 n
  holds_count n e = holds_where_counted (comes (length file / 2072) 0 enough)
    where
      holds_where_counted : Comes 0 → HoldsImages file 0 n
      holds_where_counted (inl f) = let s = same_value f.0 n (sym (count_holds f.0 f.1) ∙ e) in rw s at f.1
      holds_where_counted (inr b) = absurd (no_value 10 n (sym (count_broken b.0 b.1) ∙ e))

  pub broken_count : counting file ≡ refusal 10 → (k : ℕ) × (place_of_image file k ≡ refusal 10)
  broken_count e = broken_where_refused (comes (length file / 2072) 0 enough)
    where
      broken_where_refused : Comes 0 → (k : ℕ) × (place_of_image file k ≡ refusal 10)
      broken_where_refused (inl f) = absurd (no_value 10 f.0 (sym e ∙ count_holds f.0 f.1))
      broken_where_refused (inr b) = b
