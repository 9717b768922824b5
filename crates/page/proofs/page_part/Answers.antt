-- `page::page_part` meets its contract. Assumes nothing.
use Rattle.std.proofs.Common.{arith}
use Rattle.jhash.specs.Outcome.{outcome_of}
use Rattle.page.proofs.Pages.{part_of_page}
use Rattle.page.proofs.page_part.Goals as goal

pub print_front-requires : goal.print_front-requires
print_front-requires c = omega arith

pub returns : goal.returns
returns c =
    let a = c.args in
    let h = part_of_page a.image.now a.out.now c.print_front.new.out a.first a.count c.size_hint-size.result
    c.ids_below-lines.result (outcome_of c.print_front.result) c.size_hint-size.ensures c.ids_below-lines.ensures
    c.print_front.ensures in
    record { answer = h.0; leaves = h.1 }
