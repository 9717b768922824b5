-- `image::equality::same_last` meets its contract. Assumes nothing.
use Rattle.std.proofs.Common.{sym, ◌∙◌, arith}
use Rattle.image.proofs.Equal.{other_word, same_word}
use Rattle.image.proofs.equality.same_last.Goals as goal

pub returns-then-word : goal.returns-then-word
returns-then-word c =
    let a = c.args in
    sym
    (other_word a.a.now a.b.now a.from (omega arith) (omega arith)
    (λ w. c.if-word.true (c.word.ensures ∙ w ∙ sym c.word-2.ensures)))

pub returns : goal.returns
returns c =
    let a = c.args in
    let equal = sym c.word.ensures ∙ c.if-word.false ∙ c.word-2.ensures in
    c.same_from-2.ensures
    ∙ sym
    (same_word a.a.now a.b.now a.from (omega arith) (omega arith) (λ k. (c.type_inv.a k).fits) (λ k. (c.type_inv.b k).fits) equal)
