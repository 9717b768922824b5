-- `consistency::panel::readings_agree` meets its contract: the chain's answer is that of the ids below the upper hint. Assumes nothing.
use Rattle.std.proofs.Common.{◌≡◌, ◌-◌, refl, ap, ◌∙◌, arith, rules, tests}
use Rattle.std.proofs.lemmas.Iterator.{YieldsList-from_range}
use Rattle.std.proofs.lemmas.Iterator.Search.{all_from_yields_List}
use Rattle.reader.specs.IdWalk.{upper_hint}
use Rattle.consistency.specs.Panel.{agree_on}
use Rattle.consistency.proofs.Panels.{agree_hinted, all_of_range}
use Rattle.consistency.proofs.panel.readings_agree.Goals as goal

pub returns : goal.returns
returns c =
    let image = c.args.image.now in
    let n = c.size_hint.result in
    let whole : n - 0 ≡ n = omega arith in
    all_from_yields_List (agree_on image) _ _ c.all.result c.all.ensures.ran (YieldsList-from_range 0 n n refl whole)
    (λ x b q k. search (rules, tests))
    ∙ all_of_range (agree_on image) n 0
    ∙ agree_hinted image n (c.size_hint.ensures ∙ ap (upper_hint image) c.iter.ensures)
