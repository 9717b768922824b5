-- `jhash::word::byte_or_zero` meets its contract. Assumes nothing.
use Rattle.std.proofs.Common.{sym, arith}
use lib.ListN.{get_or-eq_default}
use Rattle.jhash.proofs.word.byte_or_zero.Goals as goal

pub returns-else-at-s : goal.returns-else-at-s
returns-else-at-s c =
    record { is = sym (get_or-eq_default c.args.s.now 0 c.if-at-s.false); small = omega arith }
