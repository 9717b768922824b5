-- `preflight::preflight` meets its contract: the verdict, and the counts of a yes. Assumes nothing.
use Rattle.std.proofs.Common.{refl, sym}
use Rattle.reader.specs.Naming.{name_given}
use Rattle.preflight.specs.Counts.{names}
use Rattle.preflight.proofs.Alone.{sheet_yes}
use Rattle.preflight.proofs.Answers.{answer_yes}
use Rattle.preflight.proofs.Changed.{alone_yes}
use Rattle.preflight.proofs.Tallies.{added_so}
use Rattle.preflight.proofs.preflight.Goals as goal

pub unsighted-requires : goal.unsighted-requires
unsighted-requires c =
    let a = c.args in
    sheet_yes a.new.now a.sheet.now a.round.now
    (alone_yes a.old.now a.new.now a.sheet.now a.round.now a.accepted.now (sym c.in_ok-ask_all.ensures))

pub returns : goal.returns
returns c =
    let a = c.args in
    let n = c.compared-compared.ensures in
    answer_yes _ _ c.in_ok-ask_all.ensures _ _ _ _ _ _ refl n.is (added_so (names (name_given a.old.now)) a.round.now _ n) c.unsighted.ensures
