-- Which bytes are printed. Assumes nothing.
use Prim.Native.Nat.{ℕ, zero, suc, ◌+◌, ◌-◌, ◌/◌, ◌%◌, ◌<◌}
use native.Mathlib.Omega.{arith}
use mathlib.Core.Path.{◌≡◌, refl}
use mathlib.Core.Logic.{◌⊎◌, inl, inr}
use mathlib.Core.Bool.{Bool, true, false, cond, ◌&&◌}
use mathlib.Core.List.{List, [], ◌∷◌, ◌++◌, map}
use mathlib.Core.Option.{Option, none, some}
use lib.ListN.{length, get_or, take, replicate}
use lib.Dec.{eqb, ltb, leb}
use borrow.Author.Tests.{leb-true}
use Rattle.image.proofs.AllOfList.{All, all_map, all_append}
use Rattle.image.specs.Bytes.{cat, range}
use Rattle.page.specs.Page.{places, id_field, shown, name_field, line}
use Rattle.page.specs.Theorems.PrintedPage.{Plain}

-- of one element, and of equal elements
pub all_at : (P : ℕ → Type 0) (xs : List ℕ) (i : ℕ) → All P xs → i < length xs → P (get_or xs i 0)
all_at P [] i p h = absurd (omega arith)
all_at P (x ∷ xs) zero p h = p.0
all_at P (x ∷ xs) (suc i) p h = all_at P xs i p.1 (omega arith)

all_replicate : (P : ℕ → Type 0) (n b : ℕ) → P b → All P (replicate n b)
all_replicate P zero b p = tt
all_replicate P (suc n) b p = (p, all_replicate P n b p)

-- a sign that is one of two
either : (t : Bool) (a b : ℕ) → Plain a → Plain b → Plain (cond t a b)
either true a b p q = p
either false a b p q = q

plain_places : (k n : ℕ) → All Plain (places k n)
unfolding places
plain_places zero n = tt
plain_places (suc k) n =
    all_append Plain (places k (n / 10)) (cond (eqb n 0) 32 (48 + n % 10) ∷ []) (plain_places k (n / 10))
    (either (eqb n 0) 32 (48 + n % 10) (omega arith) (omega arith), tt)

plain_shown : (b : ℕ) → Plain (shown b)
plain_shown b = plain_by_tests (leb 32 b) (leb b 126) refl refl
  where
    plain_by_tests : (s t : Bool) → leb 32 b ≡ s → leb b 126 ≡ t → Plain (cond (s && t) b 46)
    plain_by_tests true true e f = (leb-true 32 b e, leb-true b 126 f)
    plain_by_tests true false e f = omega arith
    plain_by_tests false t e f = omega arith

plain_all : (xs : List ℕ) → All Plain (map shown xs)
plain_all [] = tt
plain_all (x ∷ xs) = (plain_shown x, plain_all xs)

plain_field : (o : Option (List ℕ)) → All Plain (name_field o)
unfolding name_field
plain_field (some name) =
    let bytes = map shown (take 32 name) in
    let pad : List ℕ = replicate (32 - length name) 32 in
    let sign : ℕ = cond (ltb 32 (length name)) 43 32 in
    let spaces = all_replicate Plain (32 - length name) 32 (omega arith) in
    let signed = either (ltb 32 (length name)) 43 32 (omega arith) (omega arith) in
    all_append Plain (bytes ++ pad) (sign ∷ []) (all_append Plain bytes pad (plain_all (take 32 name)) spaces) (signed, tt)
plain_field none = all_append Plain (replicate 32 45) (32 ∷ []) (all_replicate Plain 32 45 (omega arith)) (omega arith, tt)

module _ (name : ℕ → Option (List ℕ)) where
  -- a line but for its line feed
  abbrev pub front : ℕ → List ℕ
  front id = id_field id ++ (32 ∷ []) ++ name_field (name id)

  pub plain_front : (id : ℕ) → All Plain (front id)
  unfolding id_field
  plain_front id =
      let digits = places 9 (id / 10) in
      let last : ℕ = 48 + id % 10 in
      let n = all_append Plain digits (last ∷ []) (plain_places 9 (id / 10)) (omega arith, tt) in
      all_append Plain (id_field id ++ (32 ∷ [])) (name_field (name id)) (all_append Plain (id_field id) (32 ∷ []) n (omega arith, tt))
      (plain_field (name id))

  abbrev pub Printable : ℕ → Type 0
  Printable b = Plain b ⊎ (b ≡ 10)

  printable_line : (id : ℕ) → All Printable (line name id)
  unfolding line
  printable_line id = all_append Printable (front id) (10 ∷ []) (all_map (λ b p. inl p) (front id) (plain_front id)) (inr refl, tt)

  pub printable_lines : (s n : ℕ) → All Printable (cat (line name) (range s n))
  unfolding cat range
  printable_lines s zero = tt
  printable_lines s (suc n) = all_append Printable (line name s) (cat (line name) (range (suc s) n)) (printable_line s) (printable_lines (suc s) n)
