-- `reader::Image::some_past_end_by_each` meets its contract: the chain's answer is that of the tables in turn. Assumes nothing.
use Rattle.std.proofs.Common.{◌&&◌, ℕ, ltb, refl, ◌∙◌, rules, tests}
use Rattle.std.proofs.lemmas.Iterator.{YieldsList-from_range}
use Rattle.std.proofs.lemmas.Iterator.Search.{any_from_yields_List}
use Rattle.image.specs.Head.{table_at, table_past_end}
use Rattle.reader.proofs.Opens.{some_of_range}
use Rattle.reader.proofs.Image.some_past_end_by_each.Goals as goal

pub returns : goal.returns
returns c =
    let image = c.args.self.bytes.now in
    any_from_yields_List (λ (k : ℕ). ltb 0 (table_at image k) && table_past_end image k) _ _ c.any.result c.any.ensures.ran
    (YieldsList-from_range 0 256 256 refl refl) (λ x b q k. search (rules, tests))
    ∙ some_of_range image 256 0
