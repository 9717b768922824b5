-- `jhash::mix_round` meets its contract, field by field. Assumes nothing.
use lib.Bits.{bit_xor}
use Rattle.jhash.specs.Lookup3.{add32}
use Rattle.jhash.specs.Steps.Rounds.{mix_round}
use Rattle.jhash.proofs.Rotation.{by_amount}
use Rattle.jhash.proofs.mix_round.Goals as goal

pub returns : goal.returns
unfolding mix_round
returns c =
    let w = c.args.w in
    let rotated = by_amount w.c c.args.k c.rotate_left-rotated.ensures c.requires in
    λ i. record {
      a = w.b;
      b = add32 w.c w.b;
      c = bit_xor (c.minus.ensures i) (rotated i);
    }
