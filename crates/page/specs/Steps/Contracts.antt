-- The preconditions and postconditions of the crate's internal functions that have several facts, as records whose
-- fields are their parts.
use Rattle.std.specs.Prelude.{ℕ, ◌+◌, ◌*◌, ◌≤◌, ◌<◌, ◌≡◌, List, length}
use Rattle.std.proofs.Math.Option.{Option}
use Rattle.jhash.specs.Outcome.{Outcome}
use Rattle.page.specs.Call.{printing_lines, after_lines}

-- `out` has room for the lines of `count` ids from `first` on, and these are words
pub record PrintLinesPre (out : List ℕ) (first count : ℕ) : Type 0 where
  pub capacity : 45 * count ≤ length out
  pub ids_fit : first + count < 4294967296

-- the lines of `count` ids from `first` on, printed to the front of `out₀` or refused; `name` gives an id's name
pub record FrontPrinted (name : ℕ → Option (List ℕ)) (first count : ℕ) (out₀ out : List ℕ) (r : Outcome ℕ)
    : Type 0 where
  pub answer : r ≡ printing_lines count (length out₀)
  pub leaves : out ≡ after_lines name first count out₀
