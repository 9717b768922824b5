-- `page::line::print_number` meets its contract. Assumes nothing.
use Rattle.std.proofs.Common.{◌-◌, sym, ◌∙◌, arith}
use Rattle.page.proofs.Fields.{number_start, place_turn, places_end}
use Rattle.page.proofs.line.print_number.Goals as goal

pub loop-i-preserved : goal.loop-i-preserved
loop-i-preserved c =
    place_turn c.loop-i.out c.args.at c.loop-i.i c.loop-i.n c.digit_or_space.result c.loop-i-test.true c.digit_or_space.ensures
    ∙ c.loop-i.invariant

pub returns : goal.returns
returns c =
    let a = c.args in
    sym (places_end c.loop-i.out a.at (9 - c.loop-i.i) c.loop-i.n (omega arith))
    ∙ c.loop-i.invariant
    ∙ number_start a.out.now a.at a.id c.digit.result c.digit.ensures
