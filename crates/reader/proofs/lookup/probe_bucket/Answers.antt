-- `reader::lookup::probe_bucket` meets its contract. Assumes nothing.
use Rattle.std.proofs.Common.{true, false, sym, refl, ◌∙◌, eq-eqb, ne_eqb}
use Rattle.image.specs.Bytes.{word}
use Rattle.reader.proofs.Searches.{probe_bucket_by}
use Rattle.reader.proofs.lookup.probe_bucket.Goals as goal

pub returns-then-entry-eq0 : goal.returns-then-entry-eq0
returns-then-entry-eq0 c =
    let a = c.args in
    let image = a.image.now in
    let name = a.name.now in
    probe_bucket_by image name c.word-entry.result a.h a.at true _ c.word-entry.ensures (eq-eqb c.word-entry.result 0 c.if-entry-eq0.true)
    refl

pub returns-then-word-h : goal.returns-then-word-h
returns-then-word-h c =
    let a = c.args in
    let image = a.image.now in
    let name = a.name.now in
    let of_word = c.word-entry in
    probe_bucket_by image name of_word.result a.h a.at false false of_word.ensures (ne_eqb of_word.result 0 c.if-entry-eq0.false)
    (ne_eqb (word image a.at) a.h (λ e. c.if-word-h.true (c.word.ensures ∙ e)))

pub returns : goal.returns
returns c =
    let a = c.args in
    let image = a.image.now in
    let name = a.name.now in
    let of_word = c.word-entry in
    let of-word2 = c.word in
    c.probe_entry.ensures
    ∙ probe_bucket_by image name of_word.result a.h a.at false true of_word.ensures (ne_eqb of_word.result 0 c.if-entry-eq0.false)
    (eq-eqb (word image a.at) a.h (sym of-word2.ensures ∙ c.if-word-h.false))
