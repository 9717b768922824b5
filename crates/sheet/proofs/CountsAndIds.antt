-- Counts and ids, and their bytes: each reads back from the other. Assumes nothing.
use Prim.Native.Nat.{ℕ, zero, suc, ◌+◌, ◌*◌, ◌/◌, ◌%◌, ◌^◌, ◌≤◌, ◌<◌, min}
use native.Mathlib.Omega.{arith}
use native.Mathlib.Decide.{dec_lt}
use mathlib.Core.Path.{◌≡◌, refl, ap, ap₂, ◌∙◌}
use mathlib.Core.List.{List, [], ◌∷◌, ◌++◌}
use lib.ListN.{length, get_or, take, drop, length-take, length-drop, get_or-eq_default}
use lib.Seq.{get_or-drop, get_or-take}
use Rattle.jhash.specs.Steps.Reads.{ByteRead}
use Rattle.image.specs.Bytes.{word, le32, cat}
use Rattle.image.proofs.Words.{word_drop, word_le32, length_le32, le32_bytes}
use Rattle.image.proofs.Lists.{length_cat}
use Rattle.sheet.specs.Format.{count_at, count_bytes, ids, id_bytes}
use Rattle.sheet.specs.Theorems.RoundSheet.{Below}
use Rattle.sheet.specs.Steps.Contracts.{CountRead}

-- a byte, or the 0 past the end
byte_below : (s : List ℕ) (i : ℕ) → Below 256 s → get_or s i 0 < 256
byte_below s i below =
    elim (dec_lt i (length s)) [
      | yes h ↦ below i h
      | no h ↦ omega (arith, get_or-eq_default s 0 {n = i} (omega arith))
    ]

-- parts of a list with numbers below a bound
pub below_drop : (n k : ℕ) (s : List ℕ) → Below k s → Below k (drop n s)
below_drop n k s below i h = let l : n + i < length s = omega (arith, length-drop n s) in omega (arith, get_or-drop n s i 0, below (n + i) l)

pub below_take : (n k : ℕ) (s : List ℕ) → Below k s → Below k (take n s)
below_take n k s below i h =
    let e : length (take n s) ≡ min n (length s) = length-take n s in
    let a : i < n = omega arith in
    let b : i < length s = omega arith in
    omega (arith, get_or-take n s i 0 a, below i b)

-- ---- counts

pub length-count_bytes : (n : ℕ) → length (count_bytes n) ≡ 2
unfolding count_bytes
length-count_bytes n = refl

pub count_back : (n : ℕ) (rest : List ℕ) → n ≤ 65535 → count_at (count_bytes n ++ rest) 0 ≡ n
unfolding count_at count_bytes
count_back n rest h = omega arith

-- a count from its two bytes
pub count_of : (s : List ℕ) (o a b : ℕ) → ByteRead (get_or s o 0) a → ByteRead (get_or s (o + 1) 0) b
    → CountRead s o (a + b * 256)
unfolding count_at
count_of s o a b low high = record { count = omega (arith, low.is, high.is); bound = omega (arith, low.small, high.small) }

pub count_below : (s : List ℕ) (o : ℕ) → Below 256 s → count_at s o ≤ 65535
unfolding count_at
count_below s o below = omega (arith, byte_below s o below, byte_below s (o + 1) below)

pub count_drop : (s : List ℕ) (n : ℕ) → count_at s n ≡ count_at (drop n s) 0
unfolding count_at
count_drop s n =
    let z : n + 0 ≡ n = omega arith in
    let o : n + (0 + 1) ≡ n + 1 = omega arith in
    omega (arith, get_or-drop n s 0 0, get_or-drop n s (0 + 1) 0, ap (λ (i : ℕ). get_or s i 0) z, ap (λ (i : ℕ). get_or s i 0) o)

-- two bytes are those of their count
two : (a b : ℕ) → a < 256 → b < 256 → count_bytes (a + b * 256) ≡ a ∷ b ∷ []
unfolding count_bytes
two a b ha hb =
    let low : (a + b * 256) % 256 ≡ a = omega arith in
    let rest : (a + b * 256) / 256 ≡ b = omega arith in
    let high : (a + b * 256) / 256 % 256 ≡ b = ap (λ (x : ℕ). x % 256) rest ∙ small b hb in
    ap₂ {C = List ℕ} (λ (x y : ℕ). x ∷ y ∷ []) low high
  where
    small : (x : ℕ) → x < 256 → x % 256 ≡ x
    small x h = omega arith

pub count_bytes_lem : (s : List ℕ) → Below 256 s → 2 ≤ length s → count_bytes (count_at s 0) ≡ take 2 s
unfolding count_at
count_bytes_lem [] below h = absurd (omega arith)
count_bytes_lem (a ∷ []) below h = absurd (omega arith)
count_bytes_lem (a ∷ b ∷ s) below h = two a b (below 0 (omega arith)) (below 1 (omega arith))

-- ---- ids

pub length_ids : (n : ℕ) (s : List ℕ) → length (ids n s) ≡ n
unfolding ids
length_ids zero s = refl
length_ids (suc n) s = ap suc (length_ids n (drop 4 s))

pub length-id_bytes : (xs : List ℕ) → length (id_bytes xs) ≡ 4 * length xs
unfolding id_bytes
length-id_bytes xs = length_cat le32 4 length_le32 xs

pub ids_at : (n : ℕ) (s : List ℕ) (i : ℕ) → i < n → get_or (ids n s) i 0 ≡ word s (4 * i)
unfolding ids
ids_at zero s i h = absurd (omega arith)
ids_at (suc n) s zero h = refl
ids_at (suc n) s (suc i) h =
    let e : 4 + 4 * i ≡ 4 * suc i = omega arith in
    ids_at n (drop 4 s) i (omega arith) ∙ word_drop s 4 (4 * i) ∙ ap (word s) e

pub no_id : (n : ℕ) (s : List ℕ) (i : ℕ) → n ≤ i → get_or (ids n s) i 0 ≡ 0
no_id n s i h = get_or-eq_default (ids n s) 0 {n = i} (omega (arith, length_ids n s))

word_below : (s : List ℕ) (o : ℕ) → Below 256 s → word s o < 2 ^ 32
unfolding word
word_below s o below =
    omega (arith, byte_below s o below, byte_below s (o + 1) below, byte_below s (o + 2) below, byte_below s (o + 3) below)

pub ids_below : (n : ℕ) (s : List ℕ) → Below 256 s → Below (2 ^ 32) (ids n s)
ids_below n s below i h =
    let l : i < n = omega (arith, length_ids n s) in
    omega (arith, ids_at n s i l, word_below s (4 * i) below)

-- ids read back from their bytes
pub ids_back : (xs rest : List ℕ) → Below (2 ^ 32) xs → ids (length xs) (id_bytes xs ++ rest) ≡ xs
unfolding ids id_bytes cat le32
ids_back [] rest below = refl
ids_back (x ∷ xs) rest below =
    ap₂ {C = List ℕ} (λ (y : ℕ) (ys : List ℕ). y ∷ ys) (word_le32 x (id_bytes xs ++ rest) (below 0 (omega arith)))
    (ids_back xs rest (λ i h. below (suc i) (omega arith)))

-- and bytes from their ids
pub bytes_back : (n : ℕ) (s : List ℕ) → Below 256 s → 4 * n ≤ length s → id_bytes (ids n s) ≡ take (4 * n) s
unfolding ids id_bytes cat word
bytes_back zero s below h = refl
bytes_back (suc n) [] below h = absurd (omega arith)
bytes_back (suc n) (a ∷ []) below h = absurd (omega arith)
bytes_back (suc n) (a ∷ b ∷ []) below h = absurd (omega arith)
bytes_back (suc n) (a ∷ b ∷ c ∷ []) below h = absurd (omega arith)
bytes_back (suc n) (a ∷ b ∷ c ∷ d ∷ s) below h =
    let e : suc (suc (suc (suc (4 * n)))) ≡ 4 * suc n = omega arith in
    ap₂ ◌++◌ (le32_bytes a b c d (below 0 (omega arith)) (below 1 (omega arith)) (below 2 (omega arith)) (below 3 (omega arith)))
    (bytes_back n s (λ i l. below (suc (suc (suc (suc i)))) (omega arith)) (omega arith))
    ∙ ap (λ (k : ℕ). take k (a ∷ b ∷ c ∷ d ∷ s)) e
