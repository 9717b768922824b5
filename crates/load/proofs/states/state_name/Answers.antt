-- `load::states::state_name` meets its contract. Assumes nothing.
use Rattle.load.specs.States.{state_name}
use Rattle.load.proofs.states.state_name.Goals as goal

pub returns : goal.returns
unfolding state_name
returns c =
    let d1 = c.hex_digit.ensures in
    let d2 = c.hex_digit-2.ensures in
    let d3 = c.hex_digit-3.ensures in
    let d4 = c.hex_digit-4.ensures in
    rw (d1, d2, d3, d4, c.hex_digit-5.ensures, c.hex_digit-6.ensures, c.hex_digit-7.ensures, c.hex_digit-8.ensures)
