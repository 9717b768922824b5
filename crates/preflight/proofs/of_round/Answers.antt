-- `preflight::of_round` meets its contract, by the questions that led to each return. Assumes nothing.
use Rattle.std.proofs.Common.{sym}
use borrow.Author.Tests.{eqb-true, eqb-false}
use Rattle.preflight.proofs.Answers.{round_empty, round_nameless, round_shared}
use Rattle.preflight.proofs.of_round.Goals as goal

pub returns-then-is_empty : goal.returns-then-is_empty
returns-then-is_empty c = round_empty _ _ (eqb-true _ 0 (sym c.if-is_empty.ensures))

pub returns-in-Some : goal.returns-in-Some
returns-in-Some c = round_nameless _ _ (eqb-false _ 0 (sym c.if-is_empty.ensures)) _ c.in-Some.ensures

pub returns-in-Some-first_shared : goal.returns-in-Some-first_shared
returns-in-Some-first_shared c =
    round_shared _ _ (eqb-false _ 0 (sym c.if-is_empty.ensures)) _ c.in_default.ensures c.in-Some-first_shared.ensures

pub returns : goal.returns
returns c = round_shared _ _ (eqb-false _ 0 (sym c.if-is_empty.ensures)) _ c.in_default.ensures c.in_default-first_shared.ensures
