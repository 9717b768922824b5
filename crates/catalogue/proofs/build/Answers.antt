-- `catalogue::build` meets its contract. Assumes nothing.
use Rattle.std.proofs.Common.{ap, ◌≤◌, ◌<◌, length, IfSome}
use Rattle.std.proofs.lemmas.Result.{on_ok_weaker}
use Rattle.image.specs.Image.{head_size}
use Rattle.jhash.specs.Outcome.{outcome_of}
use Rattle.catalogue.specs.Left.{IsBuiltOf}
use Rattle.catalogue.proofs.BuiltImage.{begin_accepted, built, never_refused, built_whole}
use Rattle.catalogue.proofs.build.Goals as goal

pub returns-in_default-clause-built : goal.returns-in_default-clause-built
returns-in_default-clause-built g c =
    λ big enough. begin_accepted c.args.buf.now big _ _ (ap outcome_of c.in_default.is) c.begin.ensures.answer

pub returns-in_default-clause-whole : goal.returns-in_default-clause-whole
returns-in_default-clause-whole g c =
    λ big enough some_room. begin_accepted c.args.buf.now big _ _ (ap outcome_of c.in_default.is) c.begin.ensures.answer

pub returns-in_default-close-clause-built : goal.returns-in_default-close-clause-built
returns-in_default-close-clause-built g c =
    let a = c.args in
    λ big enough.
    never_refused a.buf.now a.room.now a.counts.now _ c.in-Ok.fresh _ (ap outcome_of c.in-Ok.is) c.begin.ensures.answer
    c.begin.ensures.counts _ big enough c.put_input-read.ensures.left _ _ (ap outcome_of c.in_default-close.is)
    c.close.ensures.answer

pub returns-in_default-close-clause-whole : goal.returns-in_default-close-clause-whole
returns-in_default-close-clause-whole g c =
    let a = c.args in
    on_ok_weaker
    {
    Q = head_size ≤ length a.buf.now → length a.buf.now ≤ length a.room.now → 0 < length a.piece.now
    → IfSome (g.R.Read.remaining a.input.now)
    (λ bytes. IsBuiltOf (length a.buf.now) bytes c.default-in_default-close.result.entries c.default-in_default-close.result.size
    c.close.new.buf)
    }
    _
    (λ whole big enough some_room.
    never_refused a.buf.now a.room.now a.counts.now _ c.in-Ok.fresh _ (ap outcome_of c.in-Ok.is) c.begin.ensures.answer
    c.begin.ensures.counts _ big enough c.put_input-read.ensures.left _ _ (ap outcome_of c.in_default-close.is)
    c.close.ensures.answer)
    c.put_input-read.ensures.whole

pub returns-clause-built : goal.returns-clause-built
returns-clause-built g c =
    let a = c.args in
    λ big enough.
    built a.buf.now a.room.now a.counts.now _ c.in-Ok.fresh _ (ap outcome_of c.in-Ok.is) c.begin.ensures.answer
    c.begin.ensures.counts _ big enough c.put_input-read.ensures.left c.in-Ok-close.size _ _ (ap outcome_of c.in-Ok-close.is)
    c.close.ensures.answer c.close.ensures.leaves

pub returns-clause-whole : goal.returns-clause-whole
returns-clause-whole g c =
    let a = c.args in
    on_ok_weaker
    {
    Q = head_size ≤ length a.buf.now → length a.buf.now ≤ length a.room.now → 0 < length a.piece.now
    → IfSome (g.R.Read.remaining a.input.now)
    (λ bytes. IsBuiltOf (length a.buf.now) bytes c.put_input-read.result.0.entries c.in-Ok-close.size c.close.new.buf)
    }
    _
    (λ whole big enough some_room.
    built_whole a.buf.now a.room.now a.counts.now _ c.in-Ok.fresh _ (ap outcome_of c.in-Ok.is) c.begin.ensures.answer
    c.begin.ensures.counts _ big enough (g.R.Read.remaining a.input.now) (λ fits. whole fits some_room) c.in-Ok-close.size _ _
    (ap outcome_of c.in-Ok-close.is) c.close.ensures.answer c.close.ensures.leaves)
    c.put_input-read.ensures.whole
