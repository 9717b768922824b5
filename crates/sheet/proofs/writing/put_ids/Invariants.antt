-- `sheet::writing::put_ids` meets its contract. The loop's invariant: with the bytes of the ids that are left, the buffer is as
-- the contract says.
use Rattle.std.proofs.Common.{◌≡◌, ◌+◌, ◌*◌, drop}
use Rattle.std.proofs.lemmas.List.Edits.{sets}
use Rattle.sheet.specs.Format.{id_bytes}
use Rattle.sheet.proofs.writing.put_ids.Given as goal

abbrev pub invariant-loop-i : goal.invariant-loop-i
invariant-loop-i l = sets l.buf (l.at + 4 * l.i) (id_bytes (drop l.i l.ids)) ≡ sets l.initial.buf l.at (id_bytes l.ids)
