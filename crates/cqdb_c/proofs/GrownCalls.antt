-- A buffer that grows, as C has it. Assumes nothing.
use Prim.Native.Nat.{ℕ}
use mathlib.Core.Path.{◌≡◌, refl, ap, ◌∙◌}
use mathlib.Core.Bool.{Bool, true, false, cond}
use mathlib.Core.List.{[]}
use lib.Dec.{ltb}
use Rattle.writer.specs.declared.CQDBWriter.{CQDBWriter}
use Rattle.writer.specs.Grown.{with_length, grown_refusal, grown_writer}
use Rattle.writer.specs.declared.c_record.Record.{Record}
use Rattle.writer.specs.Numbers.{valid_numbers}
use Rattle.writer.specs.CRecord.{writer_of, record_of, CState, c_state}
use Rattle.cqdb_c.specs.Grown.{grown_number, record_grown}
use Rattle.writer.proofs.CRecords.{back_and_forth}

-- a record that is no record of 01
pub grown_unknown : (r : Record) (n : ℕ) → valid_numbers r.mode r.repeats ≡ false → (2 ≡ grown_number r n) × (r ≡ record_grown r n)
unfolding grown_number record_grown
grown_unknown r n over = rw over (refl, refl)

-- one of 01's: the writer's record v goes in, w comes back
pub grown_known : (r : Record) (n : ℕ) (v w : CQDBWriter) (left : Record) (k : ℕ) → valid_numbers r.mode r.repeats ≡ true → v ≡ writer_of r
    → (k ≡ grown_refusal v n) × (w ≡ grown_writer v n) → left ≡ record_of w → (k ≡ grown_number r n) × (left ≡ record_grown r n)
unfolding grown_number record_grown
grown_known r n v w left k fine is grown back =
    rw fine (
      grown.0 ∙ ap (λ (x : CQDBWriter). grown_refusal x n) is,
      back ∙ ap record_of (grown.1 ∙ ap (λ (x : CQDBWriter). grown_writer x n) is),
    )

-- a refusal changes nothing
pub grown_refused : (r : Record) (n : ℕ) → (grown_number r n ≡ 0 → ⊥) → record_grown r n ≡ r
unfolding grown_number record_grown
grown_refused r n = record_kept (valid_numbers r.mode r.repeats) refl (ltb n r.length)
  where
    record_kept : (t : Bool) → valid_numbers r.mode r.repeats ≡ t → (b : Bool) → (◌≡◌ {A = ℕ} (cond t (cond b 2 0) 2) 0 → ⊥)
        → cond t (record_of (cond b (writer_of r) (with_length (writer_of r) n))) r ≡ r
    record_kept true fine true refused = ap (λ (h : CState). h.writer) (back_and_forth (c_state r [] []) fine)
    record_kept true fine false refused = absurd (refused refl)
    record_kept false over b refused = refl
