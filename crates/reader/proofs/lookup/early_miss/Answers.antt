-- `reader::lookup::early_miss` meets its contract: by the law `early_miss`. Assumes nothing.
use Rattle.std.proofs.Common.{◌∙◌}
use Rattle.std.proofs.lemmas.Option.{IfSome_then}
use Rattle.reader.proofs.EarlyMiss.{early_miss}
use Rattle.reader.proofs.lookup.early_miss.Goals as goal

pub returns : goal.returns
returns c =
    let a = c.args in
    IfSome_then c.first_zero.result c.first_zero.ensures
    (λ read zero name.
    early_miss a.image.now name a.h a.at a.n c.requires
    c.next-k1.result c.next.result c.word-3.result c.word-4.result c.word-5.result
    c.next-k1.ensures.is c.next.ensures.is c.word-3.ensures c.word-4.ensures c.word-5.ensures
    (λ e. c.if-word-h.false (c.word.ensures ∙ e)) (λ e. c.if-word-h-2.false (c.word-2.ensures ∙ e))
    read zero)
