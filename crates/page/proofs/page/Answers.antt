-- `page::page` meets its contract. Assumes nothing.
use Rattle.jhash.specs.Outcome.{outcome_of}
use Rattle.page.proofs.Pages.{whole_page}
use Rattle.page.proofs.page.Goals as goal

pub returns : goal.returns
returns c =
    let a = c.args in
    let h = whole_page a.image.now a.out.now c.print_front.new.out c.size_hint-size.result (outcome_of c.print_front.result)
    c.size_hint-size.ensures c.print_front.ensures in
    record { answer = h.0; leaves = h.1 }
