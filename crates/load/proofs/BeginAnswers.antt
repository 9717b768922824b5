-- The load's answer and bytes, by what begin answered. Assumes nothing.
use Prim.Native.Nat.{ℕ}
use mathlib.Core.Path.{◌≡◌, refl, sym, ap, ap₂, ◌∙◌}
use mathlib.Core.Bool.{Bool, true, cond}
use mathlib.Core.List.{List}
use lib.ListN.{length, replicate}
use lib.Dec.{eqb}
use Rattle.jhash.specs.Outcome.{Outcome, value, refusal}
use Rattle.jhash.proofs.ValueOrRefusal.{no_value, same_value, same_refusal}
use Rattle.image.proofs.Bools.{chose_first, chose_second}
use Rattle.image.specs.declared.Mode.TheVariants.{Twoway}
use Rattle.writer.specs.declared.CQDBWriter.{CQDBWriter}
use Rattle.writer.specs.declared.Repeats.TheVariants.{On}
use Rattle.writer.specs.State.{State, state_with, fresh_writer, fresh, begin_refusal, beginning, counts_begun}
use Rattle.writer.specs.Close.{after_close}
use Rattle.load.specs.Load.{load_put, loading, after_load}

-- begin was accepted, and left a fresh record
pub record BegunFresh (buffer : List ℕ) (w : CQDBWriter) (counts : List ℕ) : Type 0 where
  pub accepts : eqb (begin_refusal (length buffer)) 0 ≡ true
  pub is_fresh : state_with w counts buffer ≡ fresh Twoway On buffer

-- what the load gives and leaves then
pub record LoadClosed (seed : ℕ) (buffer : List ℕ) : Type 0 where
  pub gives : value (load_put seed buffer).writer.entries ≡ loading seed buffer
  pub leaves : (after_close (load_put seed buffer)).buffer ≡ after_load seed buffer

module _ (seed : ℕ) (buffer : List ℕ) where
  -- begin is refused, and so is the load; nothing is written
  pub refused_load : (k : ℕ) (b : Outcome CQDBWriter) → b ≡ beginning Twoway On (length buffer) → b ≡ refusal k
      → (refusal k ≡ loading seed buffer) × (buffer ≡ after_load seed buffer)
  unfolding beginning loading after_load
  refused_load k b begun h =
      let due = begin_refusal (length buffer) in
      let w = fresh_writer Twoway On (length buffer) in
      let chosen = chose_second (eqb due 0) (value w) (refusal due) (refusal k) (λ z. no_value k w (sym z)) (sym begun ∙ h) in
      rw chosen.0 (ap (λ (n : ℕ). refusal n) (sym (same_refusal {A = CQDBWriter} due k chosen.1)), refl)

  -- begin is accepted: the record is fresh
  pub begun_fresh : (w : CQDBWriter) (b : Outcome CQDBWriter) (lent counts : List ℕ)
      → b ≡ beginning Twoway On (length buffer) → counts ≡ counts_begun (length buffer) lent → b ≡ value w → BegunFresh buffer w counts
  unfolding beginning counts_begun fresh
  begun_fresh w b lent counts begun clears is =
      let due = begin_refusal (length buffer) in
      let begins = fresh_writer Twoway On (length buffer) in
      let chosen = chose_first (eqb due 0) (value begins) (refusal due) (value w) (no_value due w) (sym begun ∙ is) in
      let cleared : counts ≡ replicate 256 0 = clears ∙ ap (λ (t : Bool). cond t (replicate 256 0) lent) chosen.0 in
      record {
        accepts = chosen.0;
        is_fresh = ap₂ (λ (x : CQDBWriter) (l : List ℕ). state_with x l buffer) (sym (same_value begins w chosen.1)) cleared;
      }

  pub accepted_load : eqb (begin_refusal (length buffer)) 0 ≡ true → LoadClosed seed buffer
  unfolding loading after_load
  accepted_load t = record { gives = rw t refl; leaves = rw t refl }

  -- and the code: s is what the puts leave, u what close leaves of it
  pub closed_load : (s u : State) → eqb (begin_refusal (length buffer)) 0 ≡ true → s ≡ load_put seed buffer
      → u ≡ after_close s → (value s.writer.entries ≡ loading seed buffer) × (u.buffer ≡ after_load seed buffer)
  closed_load s u t is close =
      let done = accepted_load t in (
        ap (λ (x : State). value x.writer.entries) is ∙ done.gives,
        ap (λ (x : State). x.buffer) close ∙ ap (λ (x : State). (after_close x).buffer) is ∙ done.leaves,
      )
