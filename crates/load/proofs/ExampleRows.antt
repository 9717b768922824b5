-- The worked examples of the load, computed. Assumes nothing.
use Prim.Native.Nat.{ℕ, ◌+◌, ◌*◌, ◌≤◌}
use native.Mathlib.Omega.{arith}
use mathlib.Core.Path.{◌≡◌, refl, ap, ◌∙◌}
use Rattle.jhash.specs.Outcome.{value}
use Rattle.image.specs.Image.{head_size}
use Rattle.load.specs.States.{state_after, state_name}
use Rattle.load.specs.Theorems.Rebuilt.{room_for}
use Rattle.load.specs.Examples.Rows.{LoadRow, Takes, Rows}
use Rattle.load.proofs.Theorem.{loaded, rebuilt}

row_holds : (r : LoadRow) → head_size ≤ r.bytes → room_for r.bytes ≡ r.entries → head_size + 38 * room_for r.bytes ≡ r.size → Takes r
row_holds r large number size seed buffer long =
    let load = loaded seed buffer (omega arith) in (
      load.given ∙ ap (λ (n : ℕ). value (room_for n)) long ∙ ap (λ (n : ℕ). value n) number,
      load.closes ∙ ap (λ (n : ℕ). value (head_size + 38 * room_for n)) long ∙ ap (λ (n : ℕ). value n) size,
    )

pub rows : Rows
unfolding state_name state_after
rows =
    record {
      first_name_lem = refl;
      full = row_holds (record { bytes = 157720; entries = 4096; size = 157720 }) (omega arith) refl refl;
      one_short = row_holds (record { bytes = 157719; entries = 4095; size = 157682 }) (omega arith) refl refl;
      empty = row_holds (record { bytes = 2072; entries = 0; size = 2072 }) (omega arith) refl refl;
      too_short = λ seed buffer long. rebuilt.too_short seed buffer (omega arith);
    }
