-- `reader::id_walk::next` meets its contract. Assumes nothing.
use Rattle.std.proofs.Common.{sym, ap, ◌∙◌, arith}
use Rattle.reader.specs.IdWalk.{step, step_of}
use Rattle.reader.specs.Cases.{stepped_of}
use Rattle.jhash.proofs.WordRead.{word_below}
use Rattle.reader.proofs.Namings.{named}
use Rattle.reader.proofs.id_walk.next.Goals as goal

pub overflow_add-result : goal.overflow_add-result
overflow_add-result c =
    let image = c.args.image.now in
    let place = c.in_ok-place.place in
    omega (
      arith,
      (named image c.args.walk.next place.start place.len (sym c.in_ok-place.ensures)).below,
      word_below image 16 (λ k. (c.type_inv.image k).fits),
    )

pub returns-in_err-place : goal.returns-in_err-place
unfolding step
returns-in_err-place c = ap stepped_of c.from_residual.ensures ∙ ap (step_of c.args.walk.next) c.in_err-place.ensures

pub returns : goal.returns
unfolding step
returns c = ap (step_of c.args.walk.next) c.in_ok-place.ensures
