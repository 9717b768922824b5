-- `catalogue::parsing::number` meets its contract. Assumes nothing.
use Rattle.std.proofs.Common.{arith, refl, ◌≡◌, ◌+◌, ◌*◌, ◌-◌, get_or}
use Rattle.catalogue.specs.Steps.Contracts.{TooLarge}
use Rattle.catalogue.proofs.Decimals.{digit_read, reaches, number_read}
use Rattle.catalogue.proofs.parsing.number.Goals as goal

pub loop-b-init : goal.loop-b-init
loop-b-init c = refl

pub returns-in_err-checked_mul : goal.returns-in_err-checked_mul
returns-in_err-checked_mul c =
    let low : TooLarge c.args.digits.now =
    omega (arith, reaches _ _ c.loop-b.b-index c.loop-b.invariant c.loop-b-test.true, c.in_err-checked_mul.ensures) in
    rw c.from_residual.ensures low

pub returns-in_err-v : goal.returns-in_err-v
returns-in_err-v c =
    let low : TooLarge c.args.digits.now =
    omega (
      arith,
      reaches _ _ c.loop-b.b-index c.loop-b.invariant c.loop-b-test.true,
      c.in_err-v.ensures,
      c.in_ok-checked_mul.ensures,
      c.saturating_sub.ensures,
    ) in
    rw c.from_residual-in_err-v.ensures low

pub loop-b-preserved : goal.loop-b-preserved
loop-b-preserved c =
    let read : c.in_ok-v.v ≡ c.loop-b.v * 10 + (get_or c.args.digits.now c.loop-b.b-index 0 - 48) =
    omega (arith, c.in_ok-v.ensures, c.in_ok-checked_mul.ensures, c.saturating_sub.ensures) in
    rw read (digit_read _ _ c.loop-b.b-index c.loop-b.invariant c.loop-b-test.true)

pub returns : goal.returns
returns c = number_read _ _ c.loop-b.b-index c.loop-b.invariant c.loop-b-test.false
