-- `image::probe::first_empty` meets its contract. Assumes nothing.
use Rattle.std.proofs.Common.{◌∙◌}
use Rattle.image.proofs.FirstEmpty.{none_hidden}
use Rattle.image.proofs.probe.first_empty.Goals as goal

pub returns : goal.returns
returns c =
    let a = c.args in
    let found = c.first_empty_before.ensures in
    record {
      is = found.is ∙ none_hidden a.buf.now a.o a.n a.k (λ i. (c.type_inv.buf i).fits) c.requires.start;
      inside = found.inside;
    }
