-- `build::singly::put_list` meets its contract. The loop's invariant: what is left to be put makes of what was put what the whole list leaves, and the
-- index is right where there is one. Assumes nothing.
use Rattle.std.proofs.Common.{◌≡◌, ℕ, List, length}
use Rattle.image.specs.PackedNames.{names}
use Rattle.writer.specs.declared.CQDBWriter.{CQDBWriter}
use Rattle.writer.specs.State.{state_with}
use Rattle.build.proofs.SinglePuts.{PutsBefore}
use Rattle.build.proofs.singly.put_list.Given as goal

pub record Invariant (w : CQDBWriter) (buf₀ slots₀ bytes ends ids refusals₀ counts buf slots refusals : List ℕ) (after : CQDBWriter) (i : ℕ) : Type 0 where
  pub buffer_length : length buf ≡ length buf₀
  pub slots_length : length slots ≡ length slots₀
  pub puts : PutsBefore w.mode w.repeats buf₀ (names bytes ends) ids refusals₀ i (state_with after counts buf) refusals slots

abbrev pub invariant-loop-i : goal.invariant-loop-i
invariant-loop-i l =
    Invariant l.initial.w l.initial.buf l.initial.slots l.names.bytes.now l.names.ends.now l.ids l.initial.refusals l.counts l.buf l.slots l.refusals l.w l.i
