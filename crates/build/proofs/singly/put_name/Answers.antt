-- `build::singly::put_name` meets its contract, by either way. Assumes nothing.
use Rattle.std.proofs.Common.{length, sym}
use borrow.Author.Tests.{eqb-true, eqb-false}
use Rattle.build.proofs.SinglePuts.{by_rule, by_index}
use Rattle.build.proofs.singly.put_name.Goals as goal

pub returns-then-is_empty : goal.returns-then-is_empty
returns-then-is_empty c =
    by_rule (eqb-true (length c.args.slots.now) 0 (sym c.if-is_empty.ensures)) c.put.ensures.answer c.put.ensures.leaves

pub returns : goal.returns
returns c =
    by_index c.requires (eqb-false (length c.args.slots.now) 0 (sym c.if-is_empty.ensures)) c.put_indexed.ensures
