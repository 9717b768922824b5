-- `serialize::size::finished_size` meets its contract. Assumes nothing.
use Rattle.std.proofs.Common.{arith}
use Rattle.serialize.proofs.WriteSteps.{back_in_le}
use Rattle.serialize.proofs.size.finished_size.Goals as goal

pub overflow_mul-result-2 : goal.overflow_mul-result-2
overflow_mul-result-2 c = omega (arith, c.back_in.ensures, back_in_le c.args.mode c.args.back)

pub overflow_add-result-2 : goal.overflow_add-result-2
overflow_add-result-2 c = omega (arith, c.back_in.ensures, back_in_le c.args.mode c.args.back)
