-- A word that is read: past the end, from its bytes, and how large it is. Assumes nothing.
use Rattle.std.proofs.Common.{◌≡◌, ℕ, ◌+◌, ◌*◌, ◌^◌, ◌<◌, ◌≤◌, List, length, get_or, ap, arith}
use lib.ListN.{get_or-eq_default}
use Rattle.jhash.specs.Word.{AllBytes, word}

-- past the end stand zeros
pub word_past : (s : List ℕ) (o : ℕ) → length s ≤ o → word s o ≡ 0
unfolding word
word_past s o h = omega (arith, zero 0 (omega arith), zero 1 (omega arith), zero 2 (omega arith), zero 3 (omega arith), from)
  where
    zero : (k : ℕ) → length s ≤ o + k → get_or s (o + k) 0 ≡ 0
    zero k l = get_or-eq_default s 0 {n = o + k} l

    from : get_or s (o + 0) 0 ≡ get_or s o 0
    from = let e : o + 0 ≡ o = omega arith in ap (λ (i : ℕ). get_or s i 0) e

-- a word from its four bytes
pub word_of : (s : List ℕ) (o a b c d : ℕ) → a ≡ get_or s o 0 → b ≡ get_or s (o + 1) 0 → c ≡ get_or s (o + 2) 0 → d ≡ get_or s (o + 3) 0
    → a + b * 256 + c * 65536 + d * 16777216 ≡ word s o
unfolding word
word_of s o a b c d p q r t = omega arith

-- from three, where the fourth is past the end
pub word_short : (s : List ℕ) (o a b c : ℕ) → length s ≤ o + 3 → a ≡ get_or s o 0 → b ≡ get_or s (o + 1) 0 → c ≡ get_or s (o + 2) 0
    → a + b * 256 + c * 65536 ≡ word s o
unfolding word
word_short s o a b c h p q r = omega (arith, get_or-eq_default s 0 {n = o + 3} h)

-- the words of a slice of bytes are below 2^32
pub word_below : (s : List ℕ) (o : ℕ) → AllBytes s → word s o < 2 ^ 32
unfolding word
word_below s o h = omega (arith, h o, h (o + 1), h (o + 2), h (o + 3))
