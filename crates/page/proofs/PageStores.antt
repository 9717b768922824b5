-- Runs of stores, in the orders in which a line is printed. Assumes nothing.
use Prim.Native.Nat.{ℕ, zero, suc, ◌+◌, ◌-◌, ◌≤◌, ◌<◌}
use native.Mathlib.Omega.{arith}
use mathlib.Core.Path.{◌≡◌, refl, sym, ap, ◌∙◌}
use mathlib.Core.List.{List, [], ◌∷◌, ◌++◌, map, append_assoc}
use borrow.Rule.Slice.PartMut.{put_mid}
use lib.ListN.{length, get_or, set, take, drop, replicate, get_or-map, length-map, drop_of_length-le}
use lib.Seq.{sets, sets-eq, set_comm, set-set, drop-drop}
use Rattle.image.proofs.Stores.{sets_append, sets_step}

module _ {A : Type 0} where
  -- a store behind a run, made before it
  pub set_first : (xs l : List A) (i j : ℕ) (a : A) → i + length xs ≤ j → sets (set l j a) i xs ≡ set (sets l i xs) j a
  set_first [] l i j a h = refl
  set_first (x ∷ xs) l i j a h =
      ap (λ (r : List A). sets r (suc i) xs) (set_comm l j i a x (λ e. omega arith))
      ∙ set_first xs (set l i x) (suc i) j a (omega arith)

  -- the last of a run, stored first
  pub last_first : (xs l : List A) (i j : ℕ) (a : A) → j ≡ i + length xs → sets (set l j a) i xs ≡ sets l i (xs ++ (a ∷ []))
  last_first xs l i j a e =
      set_first xs l i j a (omega arith) ∙ ap (λ (k : ℕ). set (sets l i xs) k a) e ∙ sets_append xs (a ∷ []) l i

  -- a store before a run, made behind it
  set_later : (xs l : List A) (i j : ℕ) (a : A) → j < i → set (sets l i xs) j a ≡ sets (set l j a) i xs
  set_later [] l i j a h = refl
  set_later (x ∷ xs) l i j a h =
      set_later xs (set l i x) (suc i) j a (omega arith)
      ∙ ap (λ (r : List A). sets r (suc i) xs) (set_comm l i j x a (λ e. omega arith))

  -- a run over the front of another
  pub sets_over : (vs ws l : List A) (i : ℕ) → length vs ≤ length ws → sets (sets l i ws) i vs ≡ sets l i (vs ++ drop (length vs) ws)
  sets_over [] ws l i h = refl
  sets_over (v ∷ vs) [] l i h = absurd (omega arith)
  sets_over (v ∷ vs) (w ∷ ws) l i h =
      ap (λ (r : List A). sets r (suc i) vs) (set_later ws (set l i w) (suc i) i v (omega arith))
      ∙ ap (λ (r : List A). sets (sets r (suc i) ws) (suc i) vs) (set-set l i w v)
      ∙ sets_over vs ws (set l i v) (suc i) (omega arith)

  pub drop-replicate : (k n : ℕ) (a : A) → drop k (replicate n a) ≡ replicate (n - k) a
  drop-replicate zero n a = let e : n ≡ n - 0 = omega arith in ap (λ (m : ℕ). replicate m a) e
  drop-replicate (suc k) zero a = let e : 0 ≡ 0 - suc k = omega arith in ap (λ (m : ℕ). replicate m a) e
  drop-replicate (suc k) (suc n) a =
      let e : n - k ≡ suc n - suc k = omega arith in
      drop-replicate k n a ∙ ap (λ (m : ℕ). replicate m a) e

-- a part of a list, where something else of its length stands now
pub part_stored : (a k : ℕ) (xs ys zs : List ℕ) → a + k ≤ length xs → length zs ≡ k → ys ≡ zs → put_mid a k xs ys ≡ sets xs a zs
part_stored a k xs ys zs h l e =
    ap (λ (r : List ℕ). take a xs ++ (r ++ drop k (drop a xs))) e
    ∙ ap (λ (r : List ℕ). take a xs ++ (zs ++ r)) (drop-drop k a xs ∙ ap (λ (n : ℕ). drop (a + n) xs) (sym l))
    ∙ sym (rw append_assoc at (sets-eq zs xs a (omega arith)))

-- one more of the bytes that f makes of others
pub map_turn : (f : ℕ → ℕ) (src l : List ℕ) (i j b : ℕ) → j < length src → b ≡ f (get_or src j 0)
    → sets (set l (i + j) b) (i + (j + 1)) (drop (j + 1) (map f src)) ≡ sets l (i + j) (drop j (map f src))
map_turn f src l i j b h e =
    ap (λ (x : ℕ). sets (set l (i + j) x) (i + (j + 1)) (drop (j + 1) (map f src))) (e ∙ sym (get_or-map f src j 0))
    ∙ sets_step (map f src) l i j (f 0) (omega (arith, length-map src f))

-- nothing is left of them
pub map_end : (f : ℕ → ℕ) (src l : List ℕ) (i j : ℕ) → length src ≤ j → sets l i (drop j (map f src)) ≡ l
map_end f src l i j h =
    let k : length (map f src) ≤ j = omega (arith, length-map src f) in
    ap (sets l i) (drop_of_length-le (map f src) k)
