-- `preflight::names::some_kept` meets its contract: the chain's answer is that of the ids below the upper hint. Assumes nothing.
use Rattle.std.proofs.Common.{◌≡◌, ◌-◌, refl, ap, ◌∙◌, arith, rules, tests}
use Rattle.std.proofs.lemmas.Iterator.{YieldsList-from_range}
use Rattle.std.proofs.lemmas.Iterator.Search.{any_from_yields_List}
use Rattle.reader.specs.Naming.{name_given}
use Rattle.preflight.specs.Names.{kept}
use Rattle.preflight.proofs.Walks.{any_of_range, kept_hinted}
use Rattle.preflight.proofs.names.some_kept.Goals as goal

pub returns : goal.returns
returns c =
    let a = c.args in
    let n = c.size_hint.result in
    let whole : n - 0 ≡ n = omega arith in
    any_from_yields_List (kept (name_given a.old.now) (name_given a.new.now)) _ _ c.any.result c.any.ensures.ran (YieldsList-from_range 0 n n refl whole)
    (λ x b q k. search (rules, tests))
    ∙ any_of_range (name_given a.old.now) (name_given a.new.now) n 0
    ∙ kept_hinted a.old.now _ n c.iter.ensures c.size_hint.ensures a.new.now
