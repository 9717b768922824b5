-- `build::needs::back_of` meets its contract: the largest id plus 1 is the back size. Assumes nothing.
use Rattle.std.proofs.Common.{◌+◌, ◌^◌, ◌≤◌, length, sym, arith}
use borrow.Author.Tests.{eqb-true, eqb-false}
use Rattle.build.proofs.Needed.{no_back}
use Rattle.build.proofs.needs.back_of.Goals as goal

pub returns-then-is_empty : goal.returns-then-is_empty
returns-then-is_empty c = record { is = no_back c.args.ids.now (eqb-true (length c.args.ids.now) 0 (sym c.if-is_empty.ensures)); bound = omega arith }

pub largest-requires : goal.largest-requires
largest-requires c = omega (arith, eqb-false (length c.args.ids.now) 0 (sym c.if-is_empty.ensures))

pub returns : goal.returns
returns c =
    let bound : c.largest.result + 1 ≤ 2 ^ 32 = omega arith in
    record { is = c.largest.ensures; bound = bound }
