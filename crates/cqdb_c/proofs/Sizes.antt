-- The size after a put, by the two tests that come before it. Assumes nothing.
use Prim.Native.Nat.{ℕ, ◌^◌}
use mathlib.Core.Path.{◌≡◌, refl, sym}
use mathlib.Core.Bool.{Bool, cond, ◌||◌}
use lib.Dec.{leb}
use Rattle.image.specs.declared.Mode.{Mode}
use Rattle.writer.specs.declared.Repeats.{Repeats}
use Rattle.writer.specs.Numbers.{mode_of}
use Rattle.writer.specs.State.{finished_size}
use Rattle.writer.specs.Put.{writer_after_put}
use Rattle.writer.specs.CRecord.{writer_of}
use Rattle.writer.specs.declared.c_record.Record.{Record}
use Rattle.cqdb_c.specs.SizeWith.{size_with}

pub size_by : (r : Record) (n id : ℕ) (late long : Bool) → leb (2 ^ 63) r.end ≡ late → leb 4294967295 n ≡ long
    → cond (late || long) 18446744073709551615 (finished_size (writer_after_put (writer_of r) n id)) ≡ size_with r n id
unfolding size_with
size_by r n id late long el en =
    sym (λ i. cond (el i || en i) 18446744073709551615 (finished_size (writer_after_put (writer_of r) n id)))

-- the size after the put of the writer that a record stands for; no choice of repeats changes it
abbrev pub size_told : Record → ℕ → ℕ → ℕ
size_told r n id = finished_size (writer_after_put (writer_of r) n id)

pub size_of : (r : Record) (mode : Mode) (repeats : Repeats) (n id : ℕ) → mode ≡ mode_of r.mode
    → finished_size (writer_after_put (record {
      mode = mode;
      repeats = repeats;
      length = r.length;
      end = r.end;
      entries = r.entries;
      back = r.back;
    }) n id) ≡ size_told r n id
unfolding writer_after_put
size_of r mode repeats n id e = rw e refl
