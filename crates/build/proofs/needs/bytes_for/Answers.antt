-- `build::needs::bytes_for` meets its contract: sums that are held at 2^64 − 1 make a whole that is. Assumes nothing.
use native.Mathlib.Omega.{arith}
use mathlib.Core.Path.{ap, ◌∙◌}
use Rattle.image.specs.Image.{back_in}
use Rattle.build.proofs.Needed.{back_less, whole_sum}
use Rattle.build.proofs.needs.bytes_for.Goals as goal

pub overflow_mul-back : goal.overflow_mul-back
overflow_mul-back c =
    let back = c.back_of in
    omega (arith, c.back_in-back.ensures, back_less c.args.mode back.result, back.ensures.bound)

pub overflow_add-back : goal.overflow_add-back
overflow_add-back c =
    let back = c.back_of in
    omega (arith, c.back_in-back.ensures, back_less c.args.mode back.result, back.ensures.bound)

pub returns : goal.returns
returns c =
    let a = c.args in
    let back = c.back_in-back in
    let each = c.saturating_mul-entries in
    let first = c.saturating_add-front in
    whole_sum a.mode a.size a.ids.now back.result each.result first.result c.saturating_add.result
    (back.ensures ∙ ap (back_in a.mode) c.back_of.ensures.is) each.ensures first.ensures c.saturating_add.ensures
