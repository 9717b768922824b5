-- `jhash::jhash_mix` meets its contract. Assumes nothing.
use Rattle.jhash.proofs.Mixing.{six_rounds}
use Rattle.jhash.proofs.jhash_mix.Goals as goal

pub returns : goal.returns
returns c =
    six_rounds c.args.w
    c.mix_round.ensures
    c.mix_round-2.ensures
    c.mix_round-first.ensures
    c.mix_round-3.ensures
    c.mix_round-4.ensures
    c.mix_round-5.ensures
