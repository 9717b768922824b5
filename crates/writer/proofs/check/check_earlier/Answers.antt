-- `writer::check::check_earlier` meets its contract. Assumes nothing.
use Rattle.std.proofs.Common.{ℕ, Bool, cond, sym, ap, ◌∙◌, Ok, Err}
use Rattle.std.proofs.lemmas.Result.{err_from_is_err_and}
use Rattle.writer.specs.State.{state_with}
use Rattle.writer.proofs.Earlier.{not_walked, walk_due}
use Rattle.writer.proofs.check.check_earlier.Goals as goal

pub returns-in-On : goal.returns-in-On
returns-in-On c =
    let a = c.args in
    not_walked (state_with a.w.now a.counts.now a.buf.now) a.name.now c.in-On.is

pub returns-in_err-contains_name-in-Off : goal.returns-in_err-contains_name-in-Off
returns-in_err-contains_name-in-Off c =
    let a = c.args in
    let p = err_from_is_err_and c.from_residual.result c.from_residual.ensures.1 in
    rw (p.1, p.2) (walk_due (state_with a.w.now a.counts.now a.buf.now) a.name.now c.in-Off.is (Err _) c.in_err-contains_name-in-Off.ensures)

pub returns-then-branch : goal.returns-then-branch
returns-then-branch c =
    let a = c.args in
    ap (λ (t : Bool). cond {A = ℕ} t 16 0) (sym c.if-branch.true)
    ∙ walk_due (state_with a.w.now a.counts.now a.buf.now) a.name.now c.in-Off.is (Ok _) c.in_ok-contains_name-in-Off.ensures

pub returns-else-branch : goal.returns-else-branch
returns-else-branch c =
    let a = c.args in
    ap (λ (t : Bool). cond {A = ℕ} t 16 0) (sym c.if-branch.false)
    ∙ walk_due (state_with a.w.now a.counts.now a.buf.now) a.name.now c.in-Off.is (Ok _) c.in_ok-contains_name-in-Off.ensures
