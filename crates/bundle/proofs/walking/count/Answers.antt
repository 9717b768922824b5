-- `bundle::walking::count` meets its contract. Assumes nothing.
use Rattle.std.proofs.Common.{◌≡◌, length, sym, ◌∙◌, arith}
use Rattle.std.proofs.lemmas.Result.{err_from_is_err_and}
use Rattle.bundle.specs.FileWalk.{counting}
use Rattle.bundle.proofs.FileSteps.{there}
use Rattle.bundle.proofs.FileWalks.{counting_starts, counting_turn, count_ended, count_refused}
use Rattle.bundle.proofs.walking.count.Goals as goal

pub loop-at-init : goal.loop-at-init
loop-at-init c = counting_starts c.args.file.now

pub image_size_at-requires : goal.image_size_at-requires
image_size_at-requires c = c.loop-at.invariant.inside

pub overflow_add-at : goal.overflow_add-at
overflow_add-at c =
    let image = there c.args.file.now c.loop-at.at c.in_ok-at.field-0 c.in_ok-at.ensures in
    omega (arith, image.begins.inside, image.size_is)

pub loop-at-smaller : goal.loop-at-smaller
loop-at-smaller c =
    let image = there c.args.file.now c.loop-at.at c.in_ok-at.field-0 c.in_ok-at.ensures in
    omega (arith, image.begins.large, image.size_is)

pub loop-at-preserved : goal.loop-at-preserved
loop-at-preserved c =
    let f = c.args.file.now in
    let size = c.in_ok-at.field-0 in
    let image = there f c.loop-at.at size c.in_ok-at.ensures in
    counting_turn f c.loop-at.at c.loop-at.images size (counting f) image.begins image.size_is c.loop-at.invariant

pub returns-in_err-at : goal.returns-in_err-at
returns-in_err-at c =
    let i = c.loop-at.invariant in
    let p = err_from_is_err_and c.from_residual.result c.from_residual.ensures.1 in
    rw (p.1, p.2) (sym (count_refused c.args.file.now c.loop-at.at _ i.most c.loop-at.images (λ e. omega arith) c.in_err-at.ensures) ∙ i.rest)

pub returns : goal.returns
returns c =
    let e : c.loop-at.at ≡ length c.args.file.now = omega (arith, c.loop-at.invariant.inside) in
    sym (count_ended c.args.file.now c.loop-at.at c.loop-at.invariant.most c.loop-at.images e) ∙ c.loop-at.invariant.rest
