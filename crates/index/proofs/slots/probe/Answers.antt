-- `index::slots::probe` meets its contract. The loop's invariant: the rest of the probe sequence gives the result of the whole. Assumes nothing.
use Rattle.std.proofs.Common.{◌≡◌, ℕ, refl, sym, ap, ◌∙◌, arith}
use mathlib.Core.Bool.{Bool, false}
use Rattle.index.specs.Index.{slot_at}
use Rattle.index.specs.Probe.{has_name_at}
use Rattle.index.proofs.Probing.{rest_start, probe_none, rest_end, rest_empty, rest_match, rest_next}
use Rattle.index.proofs.slots.probe.Goals.{else-slot_hash-h-via-then-slot_hash-h+else-has_name, else-slot_hash-h-via-else-slot_hash-h}
use Rattle.index.proofs.slots.probe.Goals as goal

-- what was asked of the offset a holds of the offset in the slot, b
says : (v : ℕ → Bool) {a b : ℕ} {r t : Bool} → a ≡ b → r ≡ v a → r ≡ t → v b ≡ t
says v e f g = ap v (sym e) ∙ sym f ∙ g

pub returns-then-m-eq0 : goal.returns-then-m-eq0
returns-then-m-eq0 c =
    probe_none c.args.slots.now c.args.h (has_name_at c.args.bytes.now c.args.name.now) c.if-m-eq0.true

pub loop-init : goal.loop-init
loop-init c =
    rest_start c.args.slots.now c.args.h (has_name_at c.args.bytes.now c.args.name.now) (omega arith) c.start-k.ensures

pub offset_at-at-requires : goal.offset_at-at-requires
offset_at-at-requires c = c.loop.invariant.inside

pub returns-then-at-eq0 : goal.returns-then-at-eq0
returns-then-at-eq0 c =
    rest_empty c.loop.invariant (omega arith) (sym c.offset_at-at.ensures ∙ c.if-at-eq0.true)

pub slot_hash-requires : goal.slot_hash-requires
slot_hash-requires c = c.loop.invariant.inside

pub returns-then-has_name : goal.returns-then-has_name
returns-then-has_name c =
    record {
      is = rest_match c.loop.invariant (omega arith) (λ z. c.if-at-eq0.false (c.offset_at-at.ensures ∙ z))
          (sym c.slot_hash.ensures ∙ c.if-slot_hash-h.true)
          (says (has_name_at c.args.bytes.now c.args.name.now) c.offset_at-at.ensures c.has_name.ensures c.if-has_name.true);
      number = refl;
    }

pub loop-preserved : goal.loop-preserved
loop-preserved c =
    let words = c.args.slots.now in
    let v = (has_name_at c.args.bytes.now c.args.name.now) in
    let other : (slot_at words c.loop.k).hash ≡ c.args.h → v (slot_at words c.loop.k).at ≡ false = λ e.
    elim c.else-slot_hash-h.branch [
      | else-slot_hash-h-via-then-slot_hash-h+else-has_name w ↦ says v c.offset_at-at.ensures w.has_name.ensures w.if-has_name.false
      | else-slot_hash-h-via-else-slot_hash-h w ↦ absurd (w.if-slot_hash-h.false (c.slot_hash.ensures ∙ e))
    ] in
    rest_next c.loop.invariant (omega arith) (λ z. c.if-at-eq0.false (c.offset_at-at.ensures ∙ z)) other (omega arith) c.next-k.ensures

pub returns : goal.returns
returns c = rest_end c.loop.invariant (omega arith)
