-- `canonical::entries::check_entry` meets its contract. Assumes nothing.
use Rattle.canonical.proofs.EntryBuckets.{name_zero, name_bucket}
use Rattle.canonical.proofs.entries.check_entry.Goals as goal

pub returns-then-has_zero : goal.returns-then-has_zero
returns-then-has_zero c =
    let a = c.args in
    let name = c.name_at in
    let zero = c.has_zero in
    name_zero a.image.now a.at a.n name.result.now zero.result name.ensures.is zero.ensures c.if-has_zero.true

pub returns : goal.returns
returns c =
    let a = c.args in
    let name = c.name_at in
    let zero = c.has_zero in
    let found = c.in_its_bucket in
    name_bucket a.image.now a.at a.n name.result.now zero.result name.ensures.is zero.ensures a.h found.result
    c.if-has_zero.false
    c.requires.hash found.ensures
