-- `canonical::tables::check_rows` meets its contract. Assumes nothing.
use borrow.Author.Rules.{rules}
use native.Mathlib.Omega.{arith}
use Prim.Native.Nat.{ℕ, ◌+◌, ◌*◌, ◌/◌, ◌≤◌}
use mathlib.Core.Path.{◌≡◌, sym, ap, ◌∙◌}
use mathlib.Core.Bool.{cond}
use lib.ListN.{length}
use lib.Dec.{eqb}
use Rattle.image.specs.Head.{table_at, bucket_number}
use Rattle.canonical.specs.Steps.Checks.{row_count, row_ok, table_ok}
use Rattle.canonical.proofs.TableLoops.{rows_start, table_buckets, table_offset, row_room, row_table, row_next, all_passed}
use Rattle.canonical.proofs.tables.check_rows.Goals.{After-check_table, After-offset_or_zero, After-of-table, Else-table-c}
use Rattle.canonical.proofs.tables.check_rows.Goals.{Else-table-offset_or_zero}
use Rattle.canonical.proofs.tables.check_rows.Goals as goal

-- the number of entries, and that the number of buckets is even
count : (c : After-of-table) → c.of-table.result.buckets / 2 ≡ row_count c.args.image.now c.loop-t.t
count c = ap (λ (n : ℕ). n / 2) c.of-table.ensures.buckets.is

even : (c : Else-table-c) → bucket_number c.args.image.now c.loop-t.t ≡ 2 * row_count c.args.image.now c.loop-t.t
even c = rw c.of-table.ensures.buckets.is at c.if-table-c.false

-- the offset that the table must have
wanted : (c : After-offset_or_zero) → c.offset_or_zero.result ≡ cond (eqb (row_count c.args.image.now c.loop-t.t) 0) 0 c.loop-t.o
wanted c = c.offset_or_zero.ensures ∙ ap (λ (k : ℕ). cond (eqb k 0) 0 c.loop-t.o)
    (let the-count : c.of-table.result.buckets / 2 ≡ row_count c.args.image.now c.loop-t.t = ap (λ (n : ℕ). n / 2)
    c.of-table.ensures.buckets.is in the-count)

there : (c : Else-table-offset_or_zero) → table_at c.args.image.now c.loop-t.t ≡ cond (eqb (row_count c.args.image.now c.loop-t.t) 0) 0 c.loop-t.o
there c = sym c.of-table.ensures.offset.is ∙ c.if-table-offset_or_zero.false
    ∙ (let the-wanted : c.offset_or_zero.result ≡ cond (eqb (row_count c.args.image.now c.loop-t.t) 0) 0 c.loop-t.o = c.offset_or_zero.ensures
    ∙ ap (λ (k : ℕ). cond (eqb k 0) 0 c.loop-t.o) (let the-count : c.of-table.result.buckets / 2
    ≡ row_count c.args.image.now c.loop-t.t = ap (λ (n : ℕ). n / 2) c.of-table.ensures.buckets.is in the-count) in the-wanted)

-- the table lies in the image
room : (c : Else-table-offset_or_zero) → c.loop-t.o + 16 * (c.of-table.result.buckets / 2) ≤ length c.args.image.now
room c =
    rw (let the-count : c.of-table.result.buckets / 2 ≡ row_count c.args.image.now c.loop-t.t = ap (λ (n : ℕ). n / 2)
    c.of-table.ensures.buckets.is in the-count) (row_room c.requires c.loop-t.invariant c.loop-t-test.true
    (let the-even : bucket_number c.args.image.now c.loop-t.t
    ≡ 2 * row_count c.args.image.now c.loop-t.t = rw c.of-table.ensures.buckets.is at c.if-table-c.false in the-even) (there c))

table : (c : After-check_table) → c.check_table.result ≡ table_ok c.args.image.now c.loop-t.o (row_count c.args.image.now c.loop-t.t)
table c = rw (let the-count : c.of-table.result.buckets / 2
    ≡ row_count c.args.image.now c.loop-t.t = ap (λ (n : ℕ). n / 2) c.of-table.ensures.buckets.is in the-count) at c.check_table.ensures

pub loop-t-init : goal.loop-t-init
loop-t-init c = rows_start c.requires

pub returns-then-table-c : goal.returns-then-table-c
returns-then-table-c c =
    table_buckets c.requires c.loop-t.invariant c.loop-t-test.true (λ e. c.if-table-c.true (rw c.of-table.ensures.buckets.is e))

pub returns-then-table-offset_or_zero : goal.returns-then-table-offset_or_zero
returns-then-table-offset_or_zero c =
    table_offset c.requires c.loop-t.invariant c.loop-t-test.true (even (goal.at.returns-then-table-offset_or_zero c).Else-table-c)
    (λ y. c.if-table-offset_or_zero.true (c.of-table.ensures.offset.is ∙ y
    ∙ sym (wanted (goal.at.returns-then-table-offset_or_zero c).After-offset_or_zero)))

pub check_table-requires : goal.check_table-requires
check_table-requires c = record { inside = room (goal.at.check_table-requires c).Else-table-offset_or_zero; number = search rules }

pub returns-then-not-check_table : goal.returns-then-not-check_table
returns-then-not-check_table c =
    row_table c.requires c.loop-t.invariant c.loop-t-test.true (even (goal.at.returns-then-not-check_table c).Else-table-c)
    (there (goal.at.returns-then-not-check_table c).Else-table-offset_or_zero) _
    (table (goal.at.returns-then-not-check_table c).After-check_table) c.if-not-check_table.true

pub overflow_add-o : goal.overflow_add-o
overflow_add-o c = let r = room (goal.at.overflow_add-o c).Else-table-offset_or_zero in omega arith

pub loop-t-preserved : goal.loop-t-preserved
loop-t-preserved c =
    rw (count (goal.at.loop-t-preserved c).After-of-table)
    (row_next c.requires c.loop-t.invariant c.loop-t-test.true (even (goal.at.loop-t-preserved c).Else-table-c)
    (there (goal.at.loop-t-preserved c).Else-table-offset_or_zero) _ (table (goal.at.loop-t-preserved c).After-check_table)
    c.if-not-check_table.false)

pub returns : goal.returns
returns c = all_passed (row_ok _ _) _ (omega arith) c.loop-t.invariant.same
