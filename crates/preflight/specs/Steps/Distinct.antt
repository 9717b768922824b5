-- How many different ids a list has, by which the code counts what is not sighted (`unsighted_so` in proofs/Distinct).
use Rattle.std.specs.Prelude.{ℕ, suc, cond, List, [], ◌∷◌}
use Rattle.preflight.specs.Ids.{occurs}

-- an id counts where it stands last
unfoldable pub distinct : List ℕ → ℕ
distinct [] = 0
distinct (x ∷ xs) = cond (occurs x xs) (distinct xs) (suc (distinct xs))
