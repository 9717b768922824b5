-- `reader::id_walk::size_hint` meets its contract. Assumes nothing.
use Rattle.std.proofs.Common.{◌≡◌, ◌-◌, sym, ◌∙◌, rules, tests}
use Rattle.reader.proofs.Namings.{hint_none, hint_back}
use Rattle.reader.proofs.id_walk.size_hint.Goals as goal

pub returns-then-no_back : goal.returns-then-no_back
returns-then-no_back c =
    let a = c.args in
    let image = a.image.now in
    hint_none image a.walk.next (sym c.no_back.ensures ∙ c.if-no_back.true)

pub returns : goal.returns
returns c =
    let a = c.args in
    let image = a.image.now in
    let of-no-back = c.no_back in
    let left : c.saturating_sub.result ≡ c.word.result - a.walk.next = search (rules, tests) in
    hint_back image a.walk.next c.word.result c.saturating_sub.result (sym of-no-back.ensures ∙ c.if-no_back.false)
    c.word.ensures left
