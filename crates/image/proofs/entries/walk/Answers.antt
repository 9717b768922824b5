-- `image::entries::walk` meets its contract. Assumes nothing.
use Rattle.std.proofs.Common.{◌≡◌, ◌+◌, ◌-◌, ◌<◌, sym, refl, ◌∙◌, arith, eq-eqb}
use Rattle.jhash.specs.NameHash.{hash_of}
use Rattle.jhash.proofs.Outcomes.{hash_or_zero_short}
use Rattle.image.specs.Stored.{between}
use Rattle.image.specs.Steps.Walk.{NoneWalked}
use Rattle.image.specs.Steps.Contracts.{WholeLengthPre, WholeLength}
use Rattle.image.proofs.Between.{Front, EntryRoom, whole_front, whole_room, whole_again}
use Rattle.image.proofs.EntryWalk.{walk_start, walk_step, walk_broken, walk_end, walk_past, contains_step, contains_end}
use Rattle.image.proofs.entries.walk.Goals.{In_ok-whole_length, After-word-n, After-hash_or_zero-h}
use Rattle.image.proofs.entries.walk.Goals as goal

-- ---- an entry that is whole
-- its first 8 bytes lie before the end
room : (k : In_ok-whole_length) → EntryRoom k.args.buf.now k.loop.at k.args.end k.in_ok-whole_length.field-0
room k = whole_room (record { from = k.loop.invariant.rest.inside; inside = k.requires.inside }) k.in_ok-whole_length.ensures

-- the word that is read again is its length word
before_end : (k : After-word-n) → WholeLengthPre k.args.buf.now k.loop.at k.args.end
before_end k = record { from = k.loop.invariant.rest.inside; inside = k.requires.inside }

length_word : (k : After-word-n) → WholeLength k.args.buf.now k.loop.at k.args.end k.word-n.result
length_word k = whole_again (before_end k) k.in_ok-whole_length.ensures k.word-n.ensures

-- what it says, and that the entry ends before the end
known : (k : After-word-n) → Front (between k.args.buf.now k.loop.at k.args.end) k.word-n.result
known k = whole_front (before_end k) (length_word k)

inside : (k : After-word-n) → EntryRoom k.args.buf.now k.loop.at k.args.end k.word-n.result
inside k = whole_room (before_end k) (length_word k)

-- its hash
hash : (k : After-hash_or_zero-h) → k.hash_or_zero-h.result ≡ hash_of k.name_at-name.result.now
hash k =
    let name = k.name_at-name in
    k.hash_or_zero-h.ensures
    ∙ hash_or_zero_short name.result.now (omega (arith, name.ensures.size, k.word-n.type_inv))

pub loop-init : goal.loop-init
loop-init c =
    let e : c.args.entries - 0 ≡ c.args.entries = omega arith in
    record {
      rest = rw e (walk_start c.args.buf.now c.args.end c.args.entries c.args.counts.now c.requires.head c.requires.zero);
      contains_rest = rw e refl;
    }

pub returns-in_err-whole_length : goal.returns-in_err-whole_length
returns-in_err-whole_length c =
    let a = c.args in
    let s = c.loop in
    let none : NoneWalked a.buf.now a.end a.entries =
    sym (walk_broken a.buf.now a.end a.entries a.counts.now s.at (a.entries - s.counter) s.back s.counts s.invariant.rest (omega arith)
    (sym c.in_err-whole_length.ensures)) in
    rw c.from_residual.ensures none

pub word-n-requires : goal.word-n-requires
word-n-requires c = omega (arith, (room (goal.at.word-n-requires c).In_ok-whole_length).name.inside)

pub name_at-name-requires : goal.name_at-name-requires
name_at-name-requires c = (inside (goal.at.name_at-name-requires c).After-word-n).name

pub word-requires : goal.word-requires
word-requires c = omega (arith, (inside (goal.at.word-requires c).After-word-n).name.inside)

pub loop-preserved : goal.loop-preserved
loop-preserved c =
    let a = c.args in
    let s = c.loop in
    let left = a.entries - s.counter in
    let some : 0 < left = omega arith in
    let e : left - 1 ≡ a.entries - (s.counter + 1) = omega arith in
    let n = c.word-n.result in
    let name = c.name_at-name in
    let id = c.word in
    let small : id.result < 4294967296 = omega (arith, id.type_inv) in
    let read = (goal.at.loop-preserved c).After-word-n in
    let k = known read in
    record {
      rest = rw c.max-back.ensures
          (rw e at
          (walk_step a.buf.now a.end a.entries a.counts.now s.at left s.back s.counts c.requires.inside s.invariant.rest some
          n c.hash_or_zero-h.result id.result name.result.now c.raise.new.counts k (length_word read).small small
          name.ensures.is (hash (goal.at.loop-preserved c).After-hash_or_zero-h) id.ensures c.raise.ensures));
      contains_rest = rw e at
          (contains_step a.buf.now a.end a.entries a.sought.now s.at left s.contains c.requires.inside
          s.invariant.rest.inside some s.invariant.contains_rest n name.result.now c.is_sought-contains.result k name.ensures.is
          c.is_sought-contains.ensures);
    }

pub returns-then-at-end : goal.returns-then-at-end
returns-then-at-end c =
    let a = c.args in
    let s = c.loop in
    let z : a.entries - s.counter ≡ 0 = omega arith in
    walk_past a.buf.now a.end a.entries a.counts.now s.at s.back s.counts c.requires.inside (rw z at s.invariant.rest) c.if-at-end.true

pub returns : goal.returns
returns c =
    let a = c.args in
    let s = c.loop in
    let z : a.entries - s.counter ≡ 0 = omega arith in
    let e = walk_end a.buf.now a.end a.entries a.counts.now s.at s.back s.counts c.requires.inside (rw z at s.invariant.rest) in
    record {
      whole_is = sym e.0 ∙ eq-eqb s.at a.end c.if-at-end.false;
      back_is = e.1;
      contains_is = contains_end a.buf.now a.end a.entries a.sought.now s.at (a.entries - s.counter) s.contains z s.invariant.contains_rest;
      counts_are = e.2;
    }
