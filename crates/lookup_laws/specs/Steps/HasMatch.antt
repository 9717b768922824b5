-- A search for an equal entry along a probe sequence, as the code does it.
use Rattle.std.specs.Prelude.{ℕ, Bool, true, false, cond, ◌&&◌, List, [], ◌∷◌, eqb}
use Rattle.image.specs.Tables.{Bucket}

-- has a bucket of the sequence, before the first empty one, this hash and an offset at which v says that the entry is
-- equal?
unfoldable pub has_match : (ℕ → Bucket) → ℕ → (ℕ → Bool) → List ℕ → Bool
has_match b h v [] = false
has_match b h v (k ∷ ks) =
    cond (eqb (b k).at 0) false (cond (eqb (b k).hash h && v (b k).at) true (has_match b h v ks))
