-- Windows as words: what is laid out so is read back (`specs/Theorems/Words`). Assumes nothing.
use Prim.Native.Nat.{ℕ, zero, suc, ◌+◌, ◌*◌, ◌/◌, ◌%◌}
use native.Mathlib.Omega.{arith}
use mathlib.Core.Path.{◌≡◌, refl, ap, ◌∙◌}
use mathlib.Core.List.{List, [], ◌∷◌}
use lib.ListN.{length, get_or}
use Rattle.image.specs.Bytes.{Each}
use Rattle.validity.specs.declared.Date.{Date}
use Rattle.validity.specs.declared.Window.{Window}
use Rattle.preflight.specs.Dates.{date_of, window_at, windows_from}
use Rattle.preflight.specs.Theorems.Words.{word_of, words_of, Fits, WordsRead}

-- ---- one date
date_read : (d : Date) → Fits d → date_of (word_of d) ≡ d
date_read d f =
    let y : word_of d % 65536 ≡ d.year = omega (arith, f.year) in
    let q : word_of d / 65536 ≡ d.month + 256 * d.day = omega (arith, f.year) in
    let r : (d.month + 256 * d.day) % 256 ≡ d.month = omega (arith, f.month) in
    let m : word_of d / 65536 % 256 ≡ d.month = ap (λ (k : ℕ). k % 256) q ∙ r in
    let t : word_of d / 16777216 ≡ d.day = omega (arith, f.year, f.month) in
    λ i. record { year = y i; month = m i; day = t i }

-- ---- the windows behind the first
module _ (a b c : ℕ) (rest : List ℕ) where
  behind : (i k : ℕ) → get_or (a ∷ b ∷ c ∷ rest) (3 * (i + 1) + k) 0 ≡ get_or rest (3 * i + k) 0
  behind i k =
      let e : 3 * (i + 1) + k ≡ suc (suc (suc (3 * i + k))) = omega arith in
      ap (λ (n : ℕ). get_or (a ∷ b ∷ c ∷ rest) n 0) e

  window_behind : (i : ℕ) → window_at (a ∷ b ∷ c ∷ rest) (i + 1) ≡ window_at rest i
  window_behind i =
      let z : 3 * (i + 1) ≡ 3 * (i + 1) + 0 = omega arith in
      let o : 3 * i + 0 ≡ 3 * i = omega arith in
      let id = ap (λ (n : ℕ). get_or (a ∷ b ∷ c ∷ rest) n 0) z ∙ behind i 0 ∙ ap (λ (n : ℕ). get_or rest n 0) o in
      λ j. record { id = id j; first = date_of (behind i 1 j); end = date_of (behind i 2 j) }

  windows_behind : (n i : ℕ) → windows_from (a ∷ b ∷ c ∷ rest) (i + 1) n ≡ windows_from rest i n
  unfolding windows_from
  windows_behind zero i = refl
  windows_behind (suc n) i = λ j. window_behind i j ∷ windows_behind n (i + 1) j

words_long : (ws : List Window) → length (words_of ws) ≡ 3 * length ws
unfolding words_of
words_long [] = refl
words_long (w ∷ ws) = let ih = words_long ws in omega (arith, ih)

read : (ws : List Window) → Each (λ (w : Window). Fits w.first × Fits w.end) ws → windows_from (words_of ws) 0 (length ws) ≡ ws
unfolding words_of windows_from
read [] f = refl
read (w ∷ ws) f =
    let rest = windows_behind w.id (word_of w.first) (word_of w.end) (words_of ws) (length ws) 0 ∙ read ws f.1 in
    λ i. record { id = w.id; first = date_read w.first f.0.0 i; end = date_read w.end f.0.1 i } ∷ rest i

pub words_read : WordsRead
words_read ws f =
    let l = words_long ws in
    let n : length (words_of ws) / 3 ≡ length ws = omega (arith, l) in
    ap (windows_from (words_of ws) 0) n ∙ read ws f
