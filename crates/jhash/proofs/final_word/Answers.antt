-- `jhash::final_word` meets its contract. Assumes nothing.
use Rattle.std.proofs.Common.{ap, ◌∙◌}
use lib.Bits.{bit_xor}
use Rattle.jhash.specs.Lookup3.{sub32}
use Rattle.jhash.proofs.Rotation.{by_amount}
use Rattle.jhash.proofs.final_word.Goals as goal

pub returns : goal.returns
returns c =
    let w = c.args.w in
    c.minus.ensures
    ∙ ap (sub32 (bit_xor w.c w.b)) (by_amount w.b c.args.k c.rotate_left.ensures c.requires)
