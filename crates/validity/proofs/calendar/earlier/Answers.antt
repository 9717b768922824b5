-- `validity::calendar::earlier` meets its contract. Assumes nothing.
use Rattle.std.proofs.Common.{arith}
use Rattle.validity.proofs.Order.{by_number}
use Rattle.validity.proofs.calendar.earlier.Goals as goal

pub returns : goal.returns
returns c =
    let a = c.args.a in
    let b = c.args.b in
    by_number a b c.number.result c.number-2.result (omega (arith, c.well_formed)) (omega (arith, c.well_formed)) (omega (arith, c.well_formed))
    (omega (arith, c.well_formed)) c.number.ensures c.number-2.ensures
