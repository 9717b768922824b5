-- `jhash::final_step` meets its contract, field by field. Assumes nothing.
use Rattle.jhash.specs.Steps.Rounds.{final_step}
use Rattle.jhash.proofs.final_step.Goals as goal

pub returns : goal.returns
unfolding final_step
returns c =
    λ i. record { a = c.args.w.b; b = c.final_word.ensures i; c = c.args.w.a }
