-- `jhash::power` meets its contract: `refl` computes that the table is the 32 powers. Assumes nothing.
use Rattle.std.proofs.Common.{refl}
use Rattle.jhash.proofs.Powers.{power_at}
use Rattle.jhash.proofs.power.Goals as goal

pub returns : goal.returns
returns c = power_at _ refl c.args.k
