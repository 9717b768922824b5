-- `page::print_lines` meets its contract. Assumes nothing.
use Rattle.std.proofs.Common.{sym, ◌∙◌, arith}
use Rattle.reader.specs.Naming.{name_given}
use Rattle.page.proofs.Pages.{lines_start, lines_turn, lines_end}
use Rattle.page.proofs.print_lines.Goals as goal

pub loop-i-init : goal.loop-i-init
loop-i-init c = let a = c.args in lines_start (name_given a.image.now) a.out.now a.first a.count

pub loop-i-preserved : goal.loop-i-preserved
loop-i-preserved c =
    let a = c.args in
    lines_turn (name_given a.image.now) c.loop-i.out c.print_line.new.out a.first c.loop-i.i a.count c.loop-i-test.true c.print_line.ensures
    ∙ c.loop-i.invariant

pub returns : goal.returns
returns c =
    let a = c.args in
    sym (lines_end (name_given a.image.now) c.loop-i.out a.first c.loop-i.i a.count (omega arith)) ∙ c.loop-i.invariant
