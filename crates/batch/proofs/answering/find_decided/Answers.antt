-- `batch::answering::find_decided` meets its contract. The loop's invariant: the names passed have their answers. Assumes nothing.
use Prim.Native.Nat.{◌<◌}
use native.Mathlib.Omega.{arith}
use mathlib.Core.Path.{refl, ap}
use lib.ListN.{length, get_or}
use Rattle.reader.specs.Cases.{lookup_of}
use Rattle.batch.specs.Steps.Answers.{put_words}
use Rattle.batch.proofs.Lookups.{name_short}
use Rattle.batch.proofs.AnswerPlaces.{finding_step}
use Rattle.batch.proofs.answering.find_decided.Goals.{In-loop-x}
use Rattle.batch.proofs.answering.find_decided.Goals as goal

-- the next listed number is one of the names
below : (c : In-loop-x) → get_or c.args.list.now c.loop-x.x 0 < length c.args.round.now.names.ends.now
below c = c.requires.listed.below c.loop-x.x c.loop-x-test.true

pub put_decided-requires : goal.put_decided-requires
put_decided-requires c =
    let r = c.args.round.now in
    let i = get_or c.args.list.now c.loop-x.x 0 in
    record {
      inside = omega (arith, below (goal.at.put_decided-requires c).In-loop-x, c.requires.listed.places, c.loop-x.invariant.long);
      short = omega (
        arith,
        ap length c.name.ensures,
        name_short r.names.bytes.now r.names.ends.now i (below (goal.at.put_decided-requires c).In-loop-x) c.requires.short,
      );
      small = c.requires.small;
      decided = c.requires.decided c.loop-x.x c.loop-x-test.true;
    }

pub loop-x-preserved : goal.loop-x-preserved
loop-x-preserved c =
    finding_step c.requires.listed c.args.round.now.hashed _ c.loop-x-test.true c.name.ensures refl c.put_decided.ensures c.loop-x.invariant
