-- `reader::lookup::probe_entry` meets its contract. Assumes nothing.
use Rattle.std.proofs.Common.{ℕ, true, false, List, sym, refl, ap, ◌∙◌}
use Rattle.image.specs.Bytes.{same}
use Rattle.reader.specs.Lookup.{hit}
use Rattle.reader.proofs.Searches.{name_slice, probe_entry_by}
use Rattle.reader.proofs.lookup.probe_entry.Goals as goal

pub returns-then-broken : goal.returns-then-broken
returns-then-broken c =
    let a = c.args in
    let image = a.image.now in
    let name = a.name.now in
    probe_entry_by image name a.at true _ (sym c.broken.ensures ∙ c.if-broken.true) refl

pub returns-then-same : goal.returns-then-same
returns-then-same c =
    let a = c.args in
    let image = a.image.now in
    let name = a.name.now in
    let of-broken = c.broken in
    let of_word = c.word in
    let of-same = c.same in
    ap (λ (id : ℕ). hit (record { id = id; offset = a.at })) c.word-then-same.ensures
    ∙ probe_entry_by image name a.at false true (sym of-broken.ensures ∙ c.if-broken.false)
    (ap (λ (l : List ℕ). same l name) (sym (name_slice image a.at of_word.result of_word.ensures))
    ∙ sym of-same.ensures ∙ c.if-same.true)

pub returns : goal.returns
returns c =
    let a = c.args in
    let image = a.image.now in
    let name = a.name.now in
    let of-broken = c.broken in
    let of_word = c.word in
    probe_entry_by image name a.at false false (sym of-broken.ensures ∙ c.if-broken.false)
    (ap (λ (l : List ℕ). same l name) (sym (name_slice image a.at of_word.result of_word.ensures))
    ∙ sym c.same.ensures ∙ c.if-same.false)
