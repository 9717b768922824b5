-- `catalogue::put_input` meets its contract: what the loop has is what the pieces read so far leave. Assumes nothing.
use Rattle.std.proofs.Common.{◌≡◌, ℕ, length, List}
use Rattle.std.specs.Prelude.{Option}
use Rattle.catalogue.specs.Steps.Pieces.{Gathering, gathering}
use Rattle.catalogue.proofs.InputRead.{Taken}
use Rattle.catalogue.proofs.put_input.Given as goal

pub record Inv (known₀ known : Option (List ℕ)) (g₀ g : Gathering) (piece₀ piece : List ℕ) : Type 0 where
  pub taken : Taken known₀ known g₀ g
  pub buf_length : length g.state.buffer ≡ length g₀.state.buffer
  pub room_length : length g.room ≡ length g₀.room
  pub piece_length : length piece ≡ length piece₀

abbrev pub invariant-loop : goal.invariant-loop
invariant-loop g l =
    Inv (g.R.Read.remaining l.fn.input) (g.R.Read.remaining l.input) (gathering l.initial.t l.initial.counts l.initial.buf l.initial.room)
    (gathering l.t l.counts l.buf l.room) l.initial.piece l.piece
