-- How one pass finds what the windows say: what each says, and the stronger of two. `folded_is_state`
-- (proofs/WindowLaws) joins it to the rule.
use Rattle.std.specs.Prelude.{ℕ, cond, List, [], ◌∷◌, ltb}
use Rattle.validity.specs.Rule.{invalid_dates, inverted, holds_date}
use Rattle.validity.specs.declared.Date.{Date}
use Rattle.validity.specs.declared.Window.{Window}
use Rattle.validity.specs.declared.WindowState.{WindowState}
use Rattle.validity.specs.declared.WindowState.TheVariants.{Inactive, Active, Inverted, InvalidDate}

-- what one window says
unfoldable pub one_window_state : ℕ → Date → Window → WindowState
one_window_state id date w =
    cond (invalid_dates w) InvalidDate (cond (inverted w) Inverted (cond (holds_date id date w) Active Inactive))

-- nothing, holds, 23, 22
abbrev pub rank : WindowState → ℕ
rank Inactive = 0
rank Active = 1
rank Inverted = 2
rank InvalidDate = 3

-- the stronger of two
abbrev pub stronger : WindowState → WindowState → WindowState
stronger s t = cond (ltb (rank s) (rank t)) t s

abbrev pub stepped : ℕ → Date → WindowState → Window → WindowState
stepped id date s w = stronger s (one_window_state id date w)

-- from s on over the windows
unfoldable pub folded : ℕ → Date → WindowState → List Window → WindowState
folded id date s [] = s
folded id date s (w ∷ ws) = folded id date (stepped id date s w) ws
