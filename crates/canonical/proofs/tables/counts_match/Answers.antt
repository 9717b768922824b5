-- `canonical::tables::counts_match` meets its contract: the chain's answer is that of the 256 rows. Assumes nothing.
use Rattle.std.proofs.Common.{ℕ, ◌*◌, ◌∙◌, eqb, get_or, refl, rules, tests}
use Rattle.std.proofs.lemmas.Iterator.{YieldsList-from_range}
use Rattle.std.proofs.lemmas.Iterator.Search.{all_from_yields_List}
use Rattle.image.specs.Head.{bucket_number}
use Rattle.consistency.proofs.Panels.{all_of_range}
use Rattle.canonical.proofs.tables.counts_match.Goals as goal

pub returns : goal.returns
returns c =
    let a = c.args in
    let matches = λ (t : ℕ). eqb (bucket_number a.image.now t) (2 * get_or a.counts.now t 0) in
    all_from_yields_List matches _ _ c.all.result c.all.ensures.ran (YieldsList-from_range 0 256 256 refl refl) (λ x b q k. search (rules, tests))
    ∙ all_of_range matches 256 0
