-- Bytes and words. A byte string is a list of numbers. The crate jhash defines `word`, a word as it is read from bytes
-- (specs/Word), and `Outcome`, a value or the number of a refusal (specs/Outcome).
use Rattle.std.specs.Prelude.{ℕ, zero, suc, ◌/◌, ◌%◌, Bool, true, false, cond, ◌&&◌, List, [], ◌∷◌, ◌++◌, ◌==◌}
-- 01, "The image record": all words are 32-bit unsigned, little-endian, as those that the hash reads
unfoldable pub use Rattle.jhash.specs.Word.{word}

-- the four bytes of a word
unfoldable pub le32 : ℕ → List ℕ
le32 w = w % 256 ∷ w / 256 % 256 ∷ w / 65536 % 256 ∷ w / 16777216 % 256 ∷ []

-- the bytes of a list of parts, one after the other
unfoldable pub cat : {A : Type 0} → (A → List ℕ) → List A → List ℕ
cat f [] = []
cat f (x ∷ xs) = f x ++ cat f xs

-- the elements that pass a test, in their order
unfoldable pub filter : {A : Type 0} → (A → Bool) → List A → List A
filter test [] = []
filter test (x ∷ xs) = cond (test x) (x ∷ filter test xs) (filter test xs)

-- the n numbers from s on
unfoldable pub range : ℕ → ℕ → List ℕ
range s zero = []
range s (suc n) = s ∷ range (suc s) n

-- are two byte strings equal?
unfoldable pub same : List ℕ → List ℕ → Bool
same [] [] = true
same [] (y ∷ ys) = false
same (x ∷ xs) [] = false
same (x ∷ xs) (y ∷ ys) = x == y && same xs ys

-- does each of the m numbers from t on pass a test?
unfoldable pub all : (ℕ → Bool) → ℕ → ℕ → Bool
all test t zero = true
all test t (suc m) = test t && all test (suc t) m

-- what holds of each of a list
abbrev pub Each : {A : Type 0} → (A → Type 0) → List A → Type 0
Each P [] = Unit {0}
Each P (x ∷ xs) = P x × Each P xs
