-- `page::line::print_name` meets its contract. Assumes nothing.
use Rattle.std.proofs.Common.{arith}
use Rattle.page.proofs.Fields.{name_printed}
use Rattle.page.proofs.line.print_name.Goals as goal

pub returns : goal.returns
returns c =
    let a = c.args in
    let n = c.min-n in
    name_printed a.name.now a.out.now c.repeat.new.out c.show_all.new.out a.at n.result c.mark.result
    (omega (arith, n.ensures)) c.mark.ensures c.repeat.ensures c.show_all.ensures
