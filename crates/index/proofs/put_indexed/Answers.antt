-- `index::put_indexed` meets its contract: the decision, then the stores. Assumes nothing.
use Rattle.std.proofs.Common.{◌≡◌, ℕ, ◌<◌, ◌^◌, List, length, get_or, refl, sym, ◌∙◌, arith, rules}
use Rattle.std.specs.Prelude.{Option, Some, None, Result, Ok, Err}
use Rattle.std.proofs.lemmas.Result.{err_from_is_err_and}
use Rattle.jhash.proofs.Outcomes.{number_some}
use Rattle.writer.specs.State.{State, state_with}
use Rattle.writer.specs.Put.{entry_of}
use Rattle.index.specs.Index.{slot_stored}
use Rattle.index.specs.Steps.Decided.{InBounds}
use Rattle.index.proofs.PutChecks.{end_word}
use Rattle.index.proofs.PutPromise.{Stored, put_refused, put_accepted}
use Rattle.index.proofs.put_indexed.Goals.{After-hash_or_zero-h, in-Some, in_default}
use Rattle.index.proofs.put_indexed.Goals as goal

bytes : (d : After-hash_or_zero-h) → (i : ℕ) → get_or d.args.buf.now i 0 < 256
bytes d i = search rules

-- no slot is stored where there is none
kept : (s : State) (words : List ℕ) (h : ℕ) {words' : List ℕ} (slot : Option ℕ) → words' ≡ words → ((k : ℕ) → slot ≡ Some k → ⊥)
    → Stored s words h words' slot
kept s words h None is none = is
kept s words h (Some k) is none = absurd (none k refl)

pub returns-in_err-slot : goal.returns-in_err-slot
returns-in_err-slot c =
    let p = err_from_is_err_and c.from_residual.result c.from_residual.ensures.1 in
    rw (p.1, p.2) (put_refused (bytes (goal.at.returns-in_err-slot c).After-hash_or_zero-h) (entry_of c.args.name.now c.args.id)
    c.in_err-slot.ensures.number (number_some _))

pub overflow_cast-w : goal.overflow_cast-w
overflow_cast-w c =
    let a = c.args in
    record { fits = end_word a.w.now (length a.name.now) a.id c.in_ok-slot.ensures.bounds.stores.size }

pub store_slot-requires : goal.store_slot-requires
store_slot-requires c = let inside = (rw c.in-Some.is at c.in_ok-slot.ensures.bounds.taken).inside in omega (arith, inside)

pub append-requires : goal.append-requires
append-requires c = c.in_ok-slot.ensures.bounds.stores

pub returns : goal.returns
returns c =
    let word : c.args.id < 2 ^ 32 = omega (arith, c.well_formed) in
    let s = state_with c.args.w.now c.args.counts.now c.args.buf.now in
    let stores : Stored s c.args.slots.now c.hash_or_zero-h.result c.match-slot.slots c.in_ok-slot.slot =
    elim c.match-slot.branch [
      | in-Some w ↦ rw w.in-Some.is (w.slots-is ∙ w.store_slot.ensures)
      | in_default w ↦ kept s c.args.slots.now c.hash_or_zero-h.result c.in_ok-slot.slot w.slots-is w.in_default.not-Some
    ] in
    put_accepted (bytes (goal.at.returns c).After-hash_or_zero-h) (entry_of c.args.name.now c.args.id) c.in_ok-slot.ensures word c.append.ensures stores
