-- `reader::lookup::search_from` meets its contract. Assumes nothing.
use Rattle.std.proofs.Common.{ℕ, ◌-◌, ◌<◌, true, false, length, refl, ap, ◌∙◌, arith, le-ltb, lt-ltb, le-leb}
use borrow.Author.Tests.{lt-leb}
use Rattle.reader.specs.Lookup.{Lookup}
use Rattle.reader.specs.Steps.Resume.{search_rest}
use Rattle.reader.proofs.Searches.{from_by, from_over, from_read}
use Rattle.reader.proofs.lookup.search_from.Goals as goal

pub returns-then-image-lt-HEAD_SIZE : goal.returns-then-image-lt-HEAD_SIZE
returns-then-image-lt-HEAD_SIZE c =
    let a = c.args in
    c.nothing.ensures ∙ from_by a.image.now a.name.now a.h a.c true _ (lt-ltb (length a.image.now) 2072 c.if-image-lt-HEAD_SIZE.true) refl

pub returns-then-name-ge4294967295 : goal.returns-then-name-ge4294967295
returns-then-name-ge4294967295 c =
    let a = c.args in
    c.nothing-then-name-ge4294967295.ensures
    ∙ from_by a.image.now a.name.now a.h a.c false true (le-ltb (length a.image.now) 2072 c.if-image-lt-HEAD_SIZE.false)
    (le-leb 4294967295 (length a.name.now) c.if-name-ge4294967295.true)

pub returns-then-n-c : goal.returns-then-n-c
returns-then-n-c c =
    let a = c.args in
    let found = c.table-table.ensures in
    c.nothing-then-n-c.ensures ∙ from_over a.image.now a.name.now a.h a.c c.table-table.result.n found.unread
    (λ some. ((found.table some).searched, (found.table some).number))
    c.if-n-c.true
    ∙ from_by a.image.now a.name.now a.h a.c false false (le-ltb (length a.image.now) 2072 c.if-image-lt-HEAD_SIZE.false)
    (lt-leb 4294967295 (length a.name.now) c.if-name-ge4294967295.false)

pub returns : goal.returns
returns c =
    let a = c.args in
    let table = c.table-table.result in
    let some : 0 < table.n = omega (arith, c.if-n-c.false) in
    let found = c.table-table.ensures.table some in
    let left-from : ℕ → Lookup = λ (k : ℕ). search_rest a.image.now a.name.now a.h table.at table.n k (table.n - a.c) in
    c.search_rest.ensures ∙ ap left-from c.bucket_after-k.ensures.is
    ∙ from_read a.image.now a.name.now a.h a.c table.at table.n found.searched found.offset found.number
    ∙ from_by a.image.now a.name.now a.h a.c false false (le-ltb (length a.image.now) 2072 c.if-image-lt-HEAD_SIZE.false)
    (lt-leb 4294967295 (length a.name.now) c.if-name-ge4294967295.false)
