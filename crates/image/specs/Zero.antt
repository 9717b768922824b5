-- Names with a zero byte: 02 (v). The panel reads names as C strings, the recogniser matches whole names.
use Rattle.std.specs.Prelude.{ℕ, Bool, false, cond, ◌||◌, List, [], ◌∷◌, ◌==◌}

-- has a name a zero byte?
unfoldable pub has_zero : List ℕ → Bool
has_zero [] = false
has_zero (b ∷ bs) = b == 0 || has_zero bs

-- the panel's reading of a name: what precedes the first zero byte, or else all of it
unfoldable pub before_zero : List ℕ → List ℕ
before_zero [] = []
before_zero (b ∷ bs) = cond (b == 0) [] (b ∷ before_zero bs)
