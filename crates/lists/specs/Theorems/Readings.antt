-- Both readings of names in the image of a list: 02 (v). Put refuses names with a zero byte, so the image of every list
-- of calls from a fresh record, two-way as in demand 3 or one-way, passes the check.
use Rattle.std.specs.Prelude.{◌≤◌, ◌≡◌, true, List, ℕ, length}
use Rattle.image.specs.declared.Mode.TheVariants.{Twoway, Oneway}
use Rattle.image.specs.Image.{head_size}
use Rattle.consistency.specs.Panel.{readings_agree}
use Rattle.writer.specs.declared.Repeats.{Repeats}
use Rattle.lists.specs.Calls.{Call, WordIds}
use Rattle.lists.specs.Demand3.{image_of}

pub record Readings : Type 0 where
  pub two_way_lem : (repeats : Repeats) (buffer : List ℕ) (cs : List Call) → head_size ≤ length buffer
      → readings_agree (image_of Twoway repeats buffer cs) ≡ true
  pub one_way : (repeats : Repeats) (buffer : List ℕ) (cs : List Call) → head_size ≤ length buffer
      → WordIds Oneway cs
      → readings_agree (image_of Oneway repeats buffer cs) ≡ true
