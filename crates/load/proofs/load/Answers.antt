-- `load::load` meets its contract. Assumes nothing.
use Rattle.std.proofs.Common.{ap, ◌∙◌, refl}
use Rattle.std.proofs.lemmas.Result.{err_from_is_err_and}
use Rattle.load.specs.Load.{put_from, load_put}
use Rattle.load.proofs.BeginAnswers.{refused_load, begun_fresh, closed_load}
use Rattle.load.proofs.load.Goals as goal

pub returns-in_err-w : goal.returns-in_err-w
returns-in_err-w c =
    let a = c.args in
    let refused = refused_load a.seed a.buf.now _ _ c.in_err-w.ensures.answer refl in
    let p = err_from_is_err_and c.from_residual.result c.from_residual.ensures.1 in
    record { answer = rw (p.1, p.2) refused.0; leaves = refused.1 }

pub returns : goal.returns
unfolding load_put
returns c =
    let a = c.args in
    let f = begun_fresh a.seed a.buf.now _ _ _ _ c.in_ok-w.ensures.answer c.begin.ensures.counts refl in
    let is = c.put_entries.ensures ∙ ap (put_from a.seed 4096 0) f.is_fresh in
    let closed = closed_load a.seed a.buf.now _ _ f.accepts is c.close.ensures.leaves in
    record { answer = closed.0; leaves = closed.1 }
