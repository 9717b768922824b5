-- The number on a line reads back. Assumes nothing.
use Prim.Native.Nat.{ℕ, zero, suc, ◌+◌, ◌*◌, ◌-◌, ◌/◌, ◌%◌, ◌^◌, ◌<◌}
use native.Mathlib.Omega.{arith}
use mathlib.Core.Path.{◌≡◌, refl, ap, ◌∙◌}
use mathlib.Core.Bool.{Bool, true, false, cond}
use mathlib.Core.List.{List, [], ◌∷◌, ◌++◌}
use lib.Dec.{eqb}
use borrow.Author.Tests.{ne_eqb, eqb-true}
use Rattle.page.specs.Page.{places, id_field}
use Rattle.page.specs.Theorems.PrintedPage.{read_from}

read_append : (v : ℕ) (xs ys : List ℕ) → read_from v (xs ++ ys) ≡ read_from (read_from v xs) ys
unfolding read_from
read_append v [] ys = refl
read_append v (x ∷ xs) ys = read_append (cond (eqb x 32) v (v * 10 + (x - 48))) xs ys

-- one more digit
read_digit : (n : ℕ) → cond (eqb (48 + n % 10) 32) (n / 10) (n / 10 * 10 + (48 + n % 10 - 48)) ≡ n
read_digit n = rw (ne_eqb (48 + n % 10) 32 (λ e. omega arith)) (omega arith)

-- or a space, where none is left
read_place : (n : ℕ) (t : Bool) → eqb n 0 ≡ t
    → cond (eqb (cond t 32 (48 + n % 10)) 32) (n / 10) (n / 10 * 10 + (cond t 32 (48 + n % 10) - 48)) ≡ n
read_place n true e = let z = eqb-true n 0 e in omega arith
read_place n false e = read_digit n

read_places : (k n : ℕ) → n < 10 ^ k → read_from 0 (places k n) ≡ n
unfolding places read_from
read_places zero n h = omega arith
read_places (suc k) n h =
    read_append 0 (places k (n / 10)) (cond (eqb n 0) 32 (48 + n % 10) ∷ [])
    ∙ ap (λ (v : ℕ). read_from v (cond (eqb n 0) 32 (48 + n % 10) ∷ [])) (read_places k (n / 10) (omega arith))
    ∙ read_place n (eqb n 0) refl

pub read_number : (id : ℕ) → id < 10 ^ 10 → read_from 0 (id_field id) ≡ id
unfolding id_field read_from
read_number id h =
    read_append 0 (places 9 (id / 10)) ((48 + id % 10) ∷ [])
    ∙ ap (λ (v : ℕ). read_from v ((48 + id % 10) ∷ [])) (read_places 9 (id / 10) (omega arith))
    ∙ read_digit id
