-- `serialize::insert::store_back` meets its contract. Assumes nothing.
use Rattle.std.proofs.Common.{sym, ap, ◌∙◌}
use Rattle.image.specs.declared.Mode.{Mode}
use Rattle.serialize.specs.Steps.Insertion.{back_stored}
use Rattle.serialize.proofs.insert.store_back.Goals as goal

pub returns-in-Twoway : goal.returns-in-Twoway
returns-in-Twoway c =
    let a = c.args in
    c.store_word_clipped.ensures
    ∙ ap (λ (m : Mode). back_stored m a.buf.now a.back_offset a.id a.at) (sym c.in-Twoway.is)
