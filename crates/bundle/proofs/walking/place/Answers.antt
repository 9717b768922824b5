-- `bundle::walking::place` meets its contract. Assumes nothing.
use Rattle.std.proofs.Common.{◌≡◌, ◌+◌, ◌-◌, ℕ, sym, ap, ◌∙◌, arith}
use Rattle.std.proofs.lemmas.Result.{err_from_is_err_and}
use Rattle.jhash.specs.Outcome.{value}
use Rattle.bundle.specs.FileWalk.{place_from, place_of_image}
use Rattle.bundle.proofs.FileSteps.{there}
use Rattle.bundle.proofs.FileWalks.{place_refused, place_here, place_turn}
use Rattle.bundle.proofs.walking.place.Goals as goal

pub loop-init : goal.loop-init
loop-init c = record {
  inside = omega arith;
  rest = let all : c.args.position - 0 ≡ c.args.position = omega arith in ap (place_from c.args.file.now 0) all;
}

pub image_size_at-requires : goal.image_size_at-requires
image_size_at-requires c = c.loop.invariant.inside

pub overflow_add-start : goal.overflow_add-start
overflow_add-start c =
    let image = there c.args.file.now c.loop.start c.in_ok-start.field-0 c.in_ok-start.ensures in
    omega (arith, image.begins.inside, image.size_is)

pub loop-preserved : goal.loop-preserved
loop-preserved c =
    let f = c.args.file.now in
    let size = c.in_ok-start.field-0 in
    let left : ℕ = c.args.position - c.loop.counter in
    let image = there f c.loop.start size c.in_ok-start.ensures in
    let less : c.args.position - (c.loop.counter + 1) ≡ left - 1 = omega arith in
    record {
      inside = omega (arith, image.begins.inside, image.size_is);
      rest =
          ap (place_from f (c.loop.start + size)) less
          ∙ place_turn f c.loop.start size left (place_of_image f c.args.position) image.begins image.size_is (λ z. omega arith)
          c.loop.invariant.rest;
    }

pub returns-in_err-start : goal.returns-in_err-start
returns-in_err-start c =
    let p = err_from_is_err_and c.from_residual.result c.from_residual.ensures.1 in
    rw (p.1, p.2)
    (sym (place_refused c.args.file.now c.loop.start _ (c.args.position - c.loop.counter) c.in_err-start.ensures) ∙ c.loop.invariant.rest)

pub returns-in_err-size : goal.returns-in_err-size
returns-in_err-size c =
    let p = err_from_is_err_and c.from_residual-in_err-size.result c.from_residual-in_err-size.ensures.1 in
    rw (p.1, p.2)
    (sym (place_refused c.args.file.now c.loop.start _ (c.args.position - c.loop.counter) c.in_err-size.ensures) ∙ c.loop.invariant.rest)

pub returns : goal.returns
returns c =
    let f = c.args.file.now in
    let image = there f c.loop.start c.in_ok-size.size c.in_ok-size.ensures in
    let none : 0 ≡ c.args.position - c.loop.counter = omega arith in
    ap (λ (w : ℕ). value (record { start = c.loop.start; size = w })) (sym image.size_is)
    ∙ sym (place_here f c.loop.start image.begins)
    ∙ ap (place_from f c.loop.start) none
    ∙ c.loop.invariant.rest
