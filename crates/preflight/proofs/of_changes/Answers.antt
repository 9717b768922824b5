-- `preflight::of_changes` meets its contract, by the questions that led to each return. Assumes nothing.
use Rattle.std.proofs.Common.{sym}
use Rattle.preflight.proofs.Answers.{changes_refused, changes_unlike, changes_renamed, changes_taken}
use Rattle.preflight.proofs.of_changes.Goals as goal

pub returns-then-not-is_whole : goal.returns-then-not-is_whole
returns-then-not-is_whole c =
    let a = c.args in changes_refused a.old.now a.new.now a.round.now a.accepted.now (sym c.if-not-is_whole.ensures)

pub returns-then-not-some_kept : goal.returns-then-not-some_kept
returns-then-not-some_kept c =
    let a = c.args in
    changes_unlike a.old.now a.new.now a.round.now a.accepted.now (sym c.if-not-is_whole.ensures) (sym c.if-not-some_kept.ensures)

pub returns-in-Some : goal.returns-in-Some
returns-in-Some c =
    let a = c.args in
    changes_renamed a.old.now a.new.now a.round.now a.accepted.now (sym c.if-not-is_whole.ensures) (sym c.if-not-some_kept.ensures) _
    c.in-Some.ensures

pub returns-in-Some-first_taken : goal.returns-in-Some-first_taken
returns-in-Some-first_taken c =
    let a = c.args in
    changes_taken a.old.now a.new.now a.round.now a.accepted.now (sym c.if-not-is_whole.ensures) (sym c.if-not-some_kept.ensures) _
    c.in_default.ensures c.in-Some-first_taken.ensures

pub returns : goal.returns
returns c =
    let a = c.args in
    changes_taken a.old.now a.new.now a.round.now a.accepted.now (sym c.if-not-is_whole.ensures) (sym c.if-not-some_kept.ensures) _
    c.in_default.ensures c.in_default-first_taken.ensures
