-- `build::singly::put_list` meets its contract. The loop's invariant: what is left to be put makes of what was put what the whole list leaves, and the
-- index is right where there is one. Assumes nothing.
use Rattle.std.proofs.Common.{◌≡◌, ◌≤◌, ◌<◌, length, refl, ◌∙◌, arith, rules}
use Rattle.jhash.specs.Outcome.{refusal_of}
use Rattle.image.specs.PackedNames.{names}
use Rattle.image.proofs.NameEnds.{length_names}
use Rattle.build.proofs.SinglePuts.{puts_start, puts_turn, puts_end, answers_end}
use Rattle.build.proofs.singly.put_list.Goals as goal

-- ---- the needs
pub loop-i-init : goal.loop-i-init
loop-i-init c =
    record {
      buffer_length = refl;
      slots_length = refl;
      puts = puts_start c.requires.begun c.requires.list.head_fits c.requires.cleared;
    }

pub put_name-done-requires : goal.put_name-done-requires
put_name-done-requires c =
    let v = c.loop-i.invariant in
    record {
      index = v.puts.index;
      spare = λ h. omega (arith, v.puts.few, c.loop-i-test.true, c.requires.enough (omega (arith, h, v.slots_length)), v.slots_length);
    }

pub loop-i-preserved : goal.loop-i-preserved
loop-i-preserved c =
    let a = c.args in
    let size = length_names a.names.bytes.now a.names.ends.now in
    let done = c.put_name-done in
    let g = c.loop-i.invariant.puts in
    let inside : c.loop-i.i < length (names a.names.bytes.now a.names.ends.now) = omega (arith, size, c.loop-i-test.true) in
    let many : length (names a.names.bytes.now a.names.ends.now) ≤ length a.ids.now = omega (arith, size, c.requires.list.ids_long) in
    let room : length (names a.names.bytes.now a.names.ends.now) ≤ length c.loop-i.refusals = omega (arith, size, c.requires.list.refusals_long, g.size) in
    record {
      buffer_length = done.auto.buf ∙ c.loop-i.invariant.buffer_length;
      slots_length = done.auto.slots ∙ c.loop-i.invariant.slots_length;
      puts = rw c.refusal_number.ensures
          (puts_turn g inside many room _ c.name-name.ensures (refusal_of done.result) _ done.new.slots done.ensures done.auto.slots);
    }

pub returns : goal.returns
returns c =
    let a = c.args in
    let size = length_names a.names.bytes.now a.names.ends.now in
    let last : length a.names.ends.now ≡ c.loop-i.i = omega (arith, c.loop-i-test.false) in
    record {
      leaves = puts_end c.loop-i.invariant.puts (omega (arith, size, last));
      answers = answers_end c.loop-i.invariant.puts (omega (arith, size, last)) (length a.names.ends.now) last;
    }
