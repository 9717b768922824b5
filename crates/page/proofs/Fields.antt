-- The fields of a line, as they are printed. Assumes nothing.
use Prim.Native.Nat.{ℕ, zero, suc, ◌+◌, ◌-◌, ◌/◌, ◌%◌, ◌≤◌, ◌<◌, min}
use native.Mathlib.Omega.{arith}
use native.Mathlib.Decide.{dec_lt}
use mathlib.Core.Path.{◌≡◌, refl, sym, ap, ◌∙◌}
use mathlib.Core.Bool.{cond}
use mathlib.Core.List.{List, [], ◌∷◌, ◌++◌, map}
use mathlib.Core.Option.{Option, none, some}
use lib.ListN.{length, set, take, replicate, length-append, length-take, length-map, length-replicate}
use lib.Seq.{sets, take_all}
use lib.Dec.{eqb, ltb}
use Rattle.image.proofs.Stores.{sets_then}
use Rattle.reader.specs.Naming.{name_given}
use Rattle.page.specs.Page.{places, id_field, shown, name_field, line}
use Rattle.page.proofs.PageStores.{last_first, sets_over, drop-replicate}

-- ---- the number

pub length_places : (k n : ℕ) → length (places k n) ≡ k
unfolding places
length_places zero n = refl
length_places (suc k) n =
    omega (arith, length-append (places k (n / 10)) (cond (eqb n 0) 32 (48 + n % 10) ∷ []), length_places k (n / 10))

-- the last place of a number is stored first
last_place : (out : List ℕ) (at k n p : ℕ) → p ≡ cond (eqb n 0) 32 (48 + n % 10)
    → sets (set out (at + k) p) at (places k (n / 10)) ≡ sets out at (places (suc k) n)
unfolding places
last_place out at k n p e =
    ap (λ (x : ℕ). sets (set out (at + k) x) at (places k (n / 10))) e
    ∙ last_first (places k (n / 10)) out at (at + k) (cond (eqb n 0) 32 (48 + n % 10)) (omega (arith, length_places k (n / 10)))

-- of nine places, the last of those that are left
pub place_turn : (out : List ℕ) (at i n p : ℕ) → i < 9 → p ≡ cond (eqb n 0) 32 (48 + n % 10)
    → sets (set out (at + (8 - i)) p) at (places (9 - (i + 1)) (n / 10)) ≡ sets out at (places (9 - i) n)
place_turn out at i n p h e =
    let s : suc (8 - i) ≡ 9 - i = omega arith in
    let t : 9 - (i + 1) ≡ 8 - i = omega arith in
    ap (λ (m : ℕ). sets (set out (at + (8 - i)) p) at (places m (n / 10))) t
    ∙ last_place out at (8 - i) n p e ∙ ap (λ (m : ℕ). sets out at (places m n)) s

-- no place is left
pub places_end : (out : List ℕ) (at k n : ℕ) → k ≤ 0 → sets out at (places k n) ≡ out
unfolding places
places_end out at k n h = let z : k ≡ 0 = omega arith in ap (λ (m : ℕ). sets out at (places m n)) z

pub number_start : (out : List ℕ) (at id d : ℕ) → d ≡ 48 + id % 10
    → sets (set out (at + 9) d) at (places 9 (id / 10)) ≡ sets out at (id_field id)
unfolding id_field
number_start out at id d e =
    ap (λ (x : ℕ). sets (set out (at + 9) x) at (places 9 (id / 10))) e
    ∙ last_first (places 9 (id / 10)) out at (at + 9) (48 + id % 10) (omega (arith, length_places 9 (id / 10)))

-- ---- the name

-- cut at 32, or at its own end before
cut : (name : List ℕ) (n : ℕ) → n ≡ min 32 (length name) → take n name ≡ take 32 name
cut name n e =
    elim (dec_lt 32 (length name)) [
      | yes h ↦ let k : n ≡ 32 = omega arith in ap (λ (m : ℕ). take m name) k
      | no h ↦
          let k : length name ≤ n = omega arith in
          let l : length name ≤ 32 = omega arith in
          take_all n name k ∙ sym (take_all 32 name l)
    ]

module _ (name : List ℕ) where
  abbrev bytes : List ℕ
  bytes = map shown (take 32 name)

  abbrev pad : List ℕ
  pad = replicate (32 - length name) 32

  length_bytes : length bytes ≡ min 32 (length name)
  length_bytes = length-map (take 32 name) shown ∙ length-take 32 name

  -- spaces first, and the name over them
  over_spaces : (out : List ℕ) (at n : ℕ) → n ≡ min 32 (length name)
      → sets (sets out at (replicate 32 32)) at (map shown (take n name)) ≡ sets out at (bytes ++ pad)
  over_spaces out at n e =
      let k : 32 - length bytes ≡ 32 - length name = omega (arith, length_bytes) in
      let l : length bytes ≤ length (replicate {A = ℕ} 32 32) = omega (arith, length_bytes, length-replicate {A = ℕ} 32 32) in
      ap (λ (r : List ℕ). sets (sets out at (replicate 32 32)) at (map shown r)) (cut name n e)
      ∙ sets_over bytes (replicate 32 32) out at l
      ∙ ap (λ (r : List ℕ). sets out at (bytes ++ r)) (drop-replicate (length bytes) 32 32 ∙ ap (λ (m : ℕ). replicate m 32) k)

  -- and the sign
  pub name_printed : (out out₁ out₂ : List ℕ) (at n m : ℕ) → n ≡ min 32 (length name) → m ≡ cond (ltb 32 (length name)) 43 32
      → out₁ ≡ sets out at (replicate 32 32) → out₂ ≡ sets out₁ at (map shown (take n name))
      → set out₂ (at + 32) m ≡ sets out at (name_field (some name))
  unfolding name_field
  name_printed out out₁ out₂ at n m en em e₁ e₂ =
      let w : length (bytes ++ pad) ≡ 32 = omega (arith, length-append bytes pad, length_bytes, length-replicate {A = ℕ} (32 - length name) 32) in
      let stored : out₂ ≡ sets out at (bytes ++ pad) =
      e₂ ∙ ap (λ (l : List ℕ). sets l at (map shown (take n name))) e₁ ∙ over_spaces out at n en in
      ap (λ (x : ℕ). set out₂ (at + 32) x) em
      ∙ ap (λ (l : List ℕ). set l (at + 32) (cond (ltb 32 (length name)) 43 32)) stored
      ∙ sets_then (bytes ++ pad) (cond (ltb 32 (length name)) 43 32 ∷ []) out at (at + 32) (omega arith)

-- ---- hyphens, where naming the id gives nothing

pub field_unnamed : (out out₁ : List ℕ) (at : ℕ) (o : Option (List ℕ)) → none ≡ o → out₁ ≡ sets out at (replicate 32 45)
    → set out₁ (at + 32) 32 ≡ sets out at (name_field o)
unfolding name_field
field_unnamed out out₁ at o e e₁ =
    ap (λ (l : List ℕ). set l (at + 32) 32) e₁
    ∙ sets_then (replicate 32 45) (32 ∷ []) out at (at + 32) (omega (arith, length-replicate {A = ℕ} 32 45))
    ∙ ap (λ (p : Option (List ℕ)). sets out at (name_field p)) e

-- ---- the line

pub length_number : (id : ℕ) → length (id_field id) ≡ 10
unfolding id_field
length_number id = omega (arith, length-append (places 9 (id / 10)) ((48 + id % 10) ∷ []), length_places 9 (id / 10))

pub length_field : (o : Option (List ℕ)) → length (name_field o) ≡ 33
unfolding name_field
length_field (some name) =
    let sign = length-append (bytes name ++ pad name) (cond (ltb 32 (length name)) 43 32 ∷ []) in
    let padded = length-append (bytes name) (pad name) in
    omega (arith, length_bytes name, length-replicate {A = ℕ} (32 - length name) 32)
length_field none = simp length-append

pub length_line : (name : ℕ → Option (List ℕ)) (id : ℕ) → length (line name id) ≡ 45
unfolding line
length_line name id =
    simp length-append (omega (arith, length_number id, length_field (name id)))

-- number, space, field and line feed, one after the other
pub line_printed : (image out out₁ out₃ : List ℕ) (id at : ℕ) → out₁ ≡ sets out at (id_field id)
    → out₃ ≡ sets (set out₁ (at + 10) 32) (at + 11) (name_field (name_given image id))
    → set out₃ (at + 44) 10 ≡ sets out at (line (name_given image) id)
unfolding line
line_printed image out out₁ out₃ id at e₁ e₃ =
    let field = name_field (name_given image id) in
    let front = id_field id ++ (32 ∷ []) in
    let w₁ = length_number id in
    let w₂ = length-append (id_field id) (32 ∷ []) in
    let w₃ = length-append front field in
    let w₄ = length_field (name_given image id) in
    let spaced : set out₁ (at + 10) 32 ≡ sets out at front =
    ap (λ (l : List ℕ). set l (at + 10) 32) e₁ ∙ sets_then (id_field id) (32 ∷ []) out at (at + 10) (omega arith) in
    let named : out₃ ≡ sets out at (front ++ field) =
    e₃ ∙ ap (λ (l : List ℕ). sets l (at + 11) field) spaced ∙ sets_then front field out at (at + 11) (omega arith) in
    ap (λ (l : List ℕ). set l (at + 44) 10) named ∙ sets_then (front ++ field) (10 ∷ []) out at (at + 44) (omega arith)
