-- `reader::lookup::search` meets its contract. Assumes nothing.
use Rattle.std.proofs.Common.{ℕ, ap, ◌∙◌}
use Rattle.reader.specs.Lookup.{Lookup}
use Rattle.reader.specs.Steps.Resume.{search_rest}
use Rattle.reader.proofs.Searches.{rest_start}
use Rattle.reader.proofs.lookup.search.Goals as goal

pub returns-in-None : goal.returns-in-None
returns-in-None c =
    let a = c.args in
    let left-from : ℕ → Lookup = λ (k : ℕ). search_rest a.image.now a.name.now a.h a.at a.n k a.n in
    c.search_rest.ensures ∙ ap left-from c.start-k.ensures.is ∙ rest_start a.image.now a.name.now a.h a.at a.n
