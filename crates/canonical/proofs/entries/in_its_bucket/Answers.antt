-- `canonical::entries::in_its_bucket` meets its contract. Assumes nothing.
use native.Mathlib.Omega.{arith}
use Prim.Native.Nat.{◌+◌, ◌*◌, ◌≤◌}
use lib.ListN.{length}
use Rattle.canonical.proofs.EntryBuckets.{bucket_none, table_room, bucket_other, bucket_last}
use Rattle.canonical.proofs.entries.in_its_bucket.Goals.{Else-n-eq0}
use Rattle.canonical.proofs.entries.in_its_bucket.Goals as goal

pub returns-then-n-eq0 : goal.returns-then-n-eq0
returns-then-n-eq0 c =
    let a = c.args in
    bucket_none a.image.now a.h a.at c.of-table.result.buckets c.of-table.ensures.buckets.is c.if-n-eq0.true

-- the table lies in the image, and the bucket that was found in it
room : (c : Else-n-eq0) → c.of-table.result.offset + 8 * c.of-table.result.buckets ≤ length c.args.image.now
room c =
    table_room c.args.image.now c.args.h c.args.at c.requires c.of-table.ensures.offset.is c.of-table.ensures.buckets.is
    c.if-n-eq0.false

pub first_empty_before-k-requires : goal.first_empty_before-k-requires
first_empty_before-k-requires c = record { inside = room (goal.at.first_empty_before-k-requires c).Else-n-eq0; start = c.start.ensures.inside }

pub word-requires : goal.word-requires
word-requires c = omega (arith, room (goal.at.word-requires c).Else-n-eq0, c.first_empty_before-k.ensures.inside)

pub returns-then-word-h : goal.returns-then-word-h
returns-then-word-h c =
    let a = c.args in
    bucket_other a.image.now a.h a.at c.of-table.ensures.offset.is c.of-table.ensures.buckets.is c.if-n-eq0.false
    c.start.ensures c.first_empty_before-k.ensures c.word.result c.word.ensures c.if-word-h.true

pub word-requires-2 : goal.word-requires-2
word-requires-2 c =
    omega (arith, room (goal.at.word-requires-2 c).Else-n-eq0, c.first_empty_before-k.ensures.inside)

pub returns : goal.returns
returns c =
    let a = c.args in
    bucket_last a.image.now a.h a.at c.of-table.ensures.offset.is c.of-table.ensures.buckets.is c.if-n-eq0.false
    c.start.ensures c.first_empty_before-k.ensures c.word.result c.word.ensures c.word-2.result
    c.if-word-h.false c.word-2.ensures
