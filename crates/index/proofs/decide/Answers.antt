-- `index::decide` meets its contract. Assumes nothing.
use Rattle.std.proofs.Common.{◌≡◌, ℕ, ◌≤◌, Bool, true, cond, List, length, take, refl, sym, ap, ap₂, ◌∙◌, arith}
use Rattle.std.specs.Prelude.{is_some, Err}
use Rattle.std.proofs.lemmas.Result.{err_from_is_err_and}
use mathlib.Core.Bool.{not}
use lib.ListN.{length-take}
use Rattle.jhash.specs.declared.refusals.Refusal.{Refusal}
use Rattle.jhash.specs.declared.refusals.Refusal.TheVariants.{IndexFull}
use Rattle.jhash.specs.NameHash.{hash_of, hash_or_zero}
use Rattle.jhash.specs.Refusals.{number_of}
use Rattle.jhash.proofs.Outcomes.{hash_or_zero_short, number_some}
use Rattle.image.specs.Image.{Entry}
use Rattle.image.proofs.Bools.{false_not_true}
use denote.Enum.Bare.{sameb}
use Rattle.writer.specs.contracts.Repeats.{the_type}
use Rattle.writer.specs.declared.Repeats.{Repeats}
use Rattle.writer.specs.declared.Repeats.TheVariants.{Off, On}
use Rattle.writer.specs.State.{State, state_with, refuses_repeats}
use Rattle.writer.specs.Put.{entry_of}
use Rattle.writer.specs.Steps.Storing.{AppendPre}
use Rattle.index.specs.Index.{slot_count, seeks}
use Rattle.index.specs.Probe.{has_name_at, probe_slots}
use Rattle.index.specs.Refusals.{late_refusal, early_of, late_of, probed_for, refusal_by_slots}
use Rattle.index.specs.Steps.Decided.{Decided}
use Rattle.index.proofs.PutChecks.{EarlyPassed, early_passed, late_passed, append_pre, slots_early}
use Rattle.index.proofs.PutChecks.{search_duplicate, search_late, search_slot, search_full}
use Rattle.index.proofs.decide.Goals.{else-sought-via-then-sought+else-is_none, else-sought-via-else-sought}
use Rattle.index.proofs.decide.Goals as goal

-- a refusal, whatever was lent
refused_with : {s : State} {words : List ℕ} {e : Entry} {h : ℕ} (r : Refusal) → number_of r ≡ refusal_by_slots s words e
    → Decided s words e h (Err r)
refused_with r due = record { number = due; bounds = tt }

-- the name is sought with repeats off
off_sought : (r : Repeats) {b : Bool} → b ≡ sameb the_type r Off → b ≡ refuses_repeats r
off_sought Off e = e
off_sought On e = e

-- ---- what is known where no early refusal is due: what was asked of its parts holds of the state s and the entry e

module _ (s : State) (e : Entry) (none : early_of s e ≡ 0) where
  passed : EarlyPassed s.writer s.buffer e.name
  passed = early_passed s.writer s.buffer e.name none

  module _ {h : ℕ} (is : h ≡ hash_or_zero e.name) where
    -- h is the hash of the name
    hashed : h ≡ hash_of e.name
    hashed = is ∙ hash_or_zero_short e.name passed.short

    -- what the search gives
    searched : (words : List ℕ) {sought : Bool} → sought ≡ seeks s
        → cond sought (probe_slots words h (has_name_at (take s.writer.end s.buffer) e.name)) (slot_count words)
        ≡ cond (seeks s) (probed_for s words e) (slot_count words)
    searched words seek =
        ap₂ (λ (b : Bool) (i : ℕ). cond b (probe_slots words i (has_name_at (take s.writer.end s.buffer) e.name)) (slot_count words)) seek hashed

    -- the refusal after the search
    late_is : {r : ℕ} → r ≡ late_refusal s.writer s.counts (length e.name) e.id h → r ≡ late_of s e
    late_is late = late ∙ ap (late_refusal s.writer s.counts (length e.name) e.id) hashed

    -- where none is due, what is stored has room
    stores : 0 ≡ late_refusal s.writer s.counts (length e.name) e.id h → AppendPre s e h
    stores late = append_pre passed (late_passed s.writer s.counts (length e.name) e.id h (sym late)) hashed

-- ---- the needs

pub returns-in_err-check_early : goal.returns-in_err-check_early
returns-in_err-check_early c =
    let s = state_with c.args.w.now c.args.counts.now c.args.buf.now in
    let e = entry_of c.args.name.now c.args.id in
    let p = err_from_is_err_and c.from_residual.result c.from_residual.ensures.1 in
    let is = c.in_err-check_early.ensures in
    rw (p.1, p.2) (refused_with _ (is ∙ slots_early s c.args.slots.now e (λ z. number_some _ (is ∙ z))))

pub slice_bounds-search-end : goal.slice_bounds-search-end
slice_bounds-search-end c =
    let s = state_with c.args.w.now c.args.counts.now c.args.buf.now in
    let e = entry_of c.args.name.now c.args.id in
    let p = (passed s e (sym c.in_ok-check_early.ensures)).buffer in
    omega (arith, length-take c.args.w.now.end c.args.buf.now, p.same_length, p.high)

pub returns-in_err-slot : goal.returns-in_err-slot
returns-in_err-slot c =
    let s = state_with c.args.w.now c.args.counts.now c.args.buf.now in
    let e = entry_of c.args.name.now c.args.id in
    let none : early_of s e ≡ 0 = sym c.in_ok-check_early.ensures in
    let seek = off_sought c.args.w.now.repeats c.eq-sought.ensures in
    let p = err_from_is_err_and c.from_residual-in_err-slot.result c.from_residual-in_err-slot.ensures.1 in
    rw (p.1, p.2)
    (refused_with _ (search_duplicate s c.args.slots.now e none (searched s e none c.requires c.args.slots.now seek) c.in_err-slot.ensures))

pub check_late-requires : goal.check_late-requires
check_late-requires c =
    let s = state_with c.args.w.now c.args.counts.now c.args.buf.now in
    let e = entry_of c.args.name.now c.args.id in
    let p = passed s e (sym c.in_ok-check_early.ensures) in
    record { low = omega (arith, p.buffer.high, p.buffer.same_length, c.well_formed); short = p.short }

pub returns-in_err-check_late : goal.returns-in_err-check_late
returns-in_err-check_late c =
    let s = state_with c.args.w.now c.args.counts.now c.args.buf.now in
    let e = entry_of c.args.name.now c.args.id in
    let none : early_of s e ≡ 0 = sym c.in_ok-check_early.ensures in
    let seek = off_sought c.args.w.now.repeats c.eq-sought.ensures in
    let found = searched s e none c.requires c.args.slots.now seek in
    let late = late_is s e none c.requires c.in_err-check_late.ensures in
    let p = err_from_is_err_and c.from_residual-in_err-check_late.result c.from_residual-in_err-check_late.ensures.1 in
    rw (p.1, p.2)
    (refused_with _
    (late ∙ search_late s c.args.slots.now e none found c.in_ok-slot.slot c.in_ok-slot.ensures (λ z. number_some _ (late ∙ z))))

pub returns-then-is_none : goal.returns-then-is_none
returns-then-is_none c =
    let s = state_with c.args.w.now c.args.counts.now c.args.buf.now in
    let e = entry_of c.args.name.now c.args.id in
    let none : early_of s e ≡ 0 = sym c.in_ok-check_early.ensures in
    let seek = off_sought c.args.w.now.repeats c.eq-sought.ensures in
    let found = searched s e none c.requires c.args.slots.now seek in
    let none_late : late_of s e ≡ 0 = sym (late_is s e none c.requires c.in_ok-check_late.ensures) in
    refused_with IndexFull
    (search_full s c.args.slots.now e none found c.in_ok-slot.slot c.in_ok-slot.ensures c.if-is_none.ensures none_late (sym seek ∙ c.if-sought.true))

pub returns : goal.returns
returns c =
    let s = state_with c.args.w.now c.args.counts.now c.args.buf.now in
    let e = entry_of c.args.name.now c.args.id in
    let none : early_of s e ≡ 0 = sym c.in_ok-check_early.ensures in
    let seek = off_sought c.args.w.now.repeats c.eq-sought.ensures in
    let found = searched s e none c.requires c.args.slots.now seek in
    let late = c.in_ok-check_late.ensures in
    let none_late : late_of s e ≡ 0 = sym (late_is s e none c.requires late) in
    let given : seeks s ≡ true → is_some c.in_ok-slot.slot ≡ true = λ off.
    elim c.else-sought.branch [
      | else-sought-via-then-sought+else-is_none w ↦ w.is_none.ensures ∙ ap not w.if-is_none.false
      | else-sought-via-else-sought w ↦ absurd (false_not_true (sym w.if-sought.false ∙ seek ∙ off))
    ] in
    search_slot s c.args.slots.now e none found c.in_ok-slot.slot c.in_ok-slot.ensures none_late (stores s e none c.requires late) given
