-- `page::print_front` meets its contract. Assumes nothing.
use Rattle.reader.specs.Naming.{name_given}
use Rattle.page.proofs.Pages.{too_short, all_printed}
use Rattle.page.proofs.print_front.Goals as goal

pub returns-then-out-length : goal.returns-then-out-length
returns-then-out-length c =
    let a = c.args in
    too_short (name_given a.image.now) a.first a.count a.out.now c.if-out-length.true

pub returns : goal.returns
returns c =
    let a = c.args in
    let printed = c.print_lines in
    all_printed (name_given a.image.now) a.first a.count a.out.now printed.new.out c.if-out-length.false printed.ensures
