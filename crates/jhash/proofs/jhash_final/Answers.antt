-- `jhash::jhash_final` meets its contract. Assumes nothing.
use Rattle.jhash.proofs.Mixing.{seven_steps}
use Rattle.jhash.proofs.jhash_final.Goals as goal

pub returns : goal.returns
returns c =
    seven_steps c.args.w
    c.final_step.ensures
    c.final_step-2.ensures
    c.final_step-third.ensures
    c.final_step-3.ensures
    c.final_step-4.ensures
    c.final_step-sixth.ensures
    c.final_word.ensures
