-- `canonical::entries::check_entries` meets its contract. Assumes nothing.
use Rattle.std.proofs.Common.{◌≡◌, ◌+◌, ◌-◌, ap, ◌∙◌, arith}
use Rattle.jhash.specs.NameHash.{hash_of}
use Rattle.jhash.proofs.Outcomes.{hash_or_zero_short}
use Rattle.image.specs.Tables.{table_of}
use Rattle.image.proofs.Between.{EntryRoom}
use Rattle.canonical.specs.Steps.Checks.{entry_name, is_two}
use Rattle.canonical.specs.Steps.Contracts.{EntriesWrong}
use Rattle.canonical.proofs.EntryLoop.{EntryRead, entering_start, entering_broken, entering_inside, entering_wrong, entering_next}
use Rattle.canonical.proofs.EntryLoop.{entering_past, entering_end}
use Rattle.canonical.proofs.entries.check_entries.Goals.{After-check_entry, After-hash_or_zero-h, In_ok-n}
use Rattle.canonical.proofs.entries.check_entries.Goals as goal

-- ---- an entry that is whole
-- it lies before the end
inside : (c : In_ok-n) → EntryRoom c.args.image.now c.loop.at c.args.end c.in_ok-n.n
inside c = entering_inside c.loop.invariant c.requires.area.inside (omega arith) c.in_ok-n.ensures

-- its hash
hash_is : (c : After-hash_or_zero-h) → c.hash_or_zero-h.result ≡ hash_of (entry_name c.args.image.now c.loop.at c.in_ok-n.n)
hash_is c =
    let name = c.name_at in
    let w = c.in_ok-n.ensures in
    c.hash_or_zero-h.ensures ∙ hash_or_zero_short name.result.now (omega (arith, name.ensures.size, w.small, w.some)) ∙ ap hash_of name.ensures.is

read : (c : After-check_entry) → c.hash_or_zero-h.result ≡ hash_of (entry_name c.args.image.now c.loop.at c.in_ok-n.n) → let a = c.args in
    EntryRead a.image.now a.end (is_two a.mode) a.o c.loop.at c.in_ok-n.n c.hash_or_zero-h.result
    c.size_or_zero-id.result c.word_or_zero-w.result c.not_before.result c.check_entry.result
read c hash = record {
  whole = c.in_ok-n.ensures;
  hash_is = hash;
  id_is = c.size_or_zero-id.ensures.is;
  back_word_is = c.word_or_zero-w.ensures;
  ahead_is = c.not_before.ensures;
  named_is = c.check_entry.ensures;
}

-- ---- the needs
pub loop-init : goal.loop-init
loop-init c =
    let e : c.args.entries - 0 ≡ c.args.entries = omega arith in
    rw e (entering_start c.requires)

pub returns-in_err-n : goal.returns-in_err-n
returns-in_err-n c =
    let a = c.args in
    let wrong : EntriesWrong a.image.now a.end a.entries (is_two a.mode) a.o =
    entering_broken c.loop.invariant c.requires.area.inside (omega arith) c.in_err-n.ensures in
    rw c.from_residual.ensures wrong

pub name_at-requires : goal.name_at-requires
name_at-requires c = (inside (goal.at.name_at-requires c).In_ok-n).name

pub check_entry-requires : goal.check_entry-requires
check_entry-requires c =
    let pre = c.requires in
    let room = inside (goal.at.check_entry-requires c).In_ok-n in
    record {
      entry = room.name;
      small = omega (arith, room.before, pre.area.small);
      hash = hash_is (goal.at.check_entry-requires c).After-hash_or_zero-h;
      tables = pre.tables;
    }

pub returns-then-not-not_before-check_entry : goal.returns-then-not-not_before-check_entry
returns-then-not-not_before-check_entry c =
    entering_wrong c.loop.invariant c.requires.area.inside (omega arith)
    (read (goal.at.returns-then-not-not_before-check_entry c).After-check_entry
    (hash_is (goal.at.returns-then-not-not_before-check_entry c).After-hash_or_zero-h)) c.if-not-not_before-check_entry.true

pub raise-requires : goal.raise-requires
raise-requires c =
    omega (arith, c.loop.invariant.rest.counts_small (table_of c.hash_or_zero-h.result), c.loop-test.true, c.ranges.entries)

pub loop-preserved : goal.loop-preserved
loop-preserved c =
    let left = c.args.entries - c.loop.counter in
    let e : left - 1 ≡ c.args.entries - (c.loop.counter + 1) = omega arith in
    rw c.max-back.ensures
    (rw e at
    (entering_next c.loop.invariant c.requires.area.inside (omega arith)
    (read (goal.at.loop-preserved c).After-check_entry (hash_is (goal.at.loop-preserved c).After-hash_or_zero-h))
    c.if-not-not_before-check_entry.false
    c.from-lasts.result c.raise.new.counts c.size_or_zero-id.ensures.small c.from-lasts.ensures c.raise.ensures))

pub returns-then-at-end : goal.returns-then-at-end
returns-then-at-end c =
    let z : c.args.entries - c.loop.counter ≡ 0 = omega arith in
    entering_past (rw z at c.loop.invariant) c.requires.area.inside c.if-at-end.true

pub returns : goal.returns
returns c =
    let z : c.args.entries - c.loop.counter ≡ 0 = omega arith in
    entering_end (rw z at c.loop.invariant) c.requires.area.inside c.if-at-end.false
