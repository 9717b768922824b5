-- `canonical::is_canonical` meets its contract. Assumes nothing.
use Rattle.std.proofs.Common.{arith, sym}
use Rattle.canonical.proofs.Decision.{never_opened}
use Rattle.canonical.proofs.is_canonical.Goals as goal

pub returns-in_default : goal.returns-in_default
returns-in_default c =
    never_opened c.args.image.now _ (sym c.in_default.ensures) (λ i. omega (arith, c.shared_slice_known-1.given i))
