-- `image::entries::whole_length` meets its contract. Assumes nothing.
use Rattle.std.proofs.Common.{arith}
use Rattle.image.proofs.Between.{short_there, none_there, cut_there, open_there, whole_there}
use Rattle.image.proofs.entries.whole_length.Goals as goal

pub returns-then-end-at-lt8 : goal.returns-then-end-at-lt8
returns-then-end-at-lt8 c = short_there c.requires c.if-end-at-lt8.true

pub returns-then-n-eq0 : goal.returns-then-n-eq0
returns-then-n-eq0 c =
    let w = c.word-n in
    none_there c.requires c.if-end-at-lt8.false w.result w.ensures c.if-n-eq0.true

pub returns-then-end-at : goal.returns-then-end-at
returns-then-end-at c =
    let w = c.word-n in
    cut_there c.requires c.if-end-at-lt8.false w.result w.ensures c.if-n-eq0.false
    c.if-end-at.true

pub returns-then-buf-at-ne0 : goal.returns-then-buf-at-ne0
returns-then-buf-at-ne0 c =
    let w = c.word-n in
    open_there c.requires c.if-end-at-lt8.false w.result w.ensures c.if-n-eq0.false c.if-end-at.false c.if-buf-at-ne0.true

pub returns : goal.returns
returns c =
    let w = c.word-n in
    whole_there c.requires c.if-end-at-lt8.false w.result w.ensures c.if-n-eq0.false c.if-end-at.false (omega (arith, w.type_inv))
    c.if-buf-at-ne0.false
