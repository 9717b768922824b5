-- `batch::answering::find_decided` meets its contract. The loop's invariant: the names passed have their answers. Assumes nothing.
use Rattle.batch.proofs.AnswerPlaces.{Finding}
use Rattle.batch.proofs.answering.find_decided.Given as goal

abbrev pub invariant-loop-x : goal.invariant-loop-x
invariant-loop-x l = Finding l.round l.list l.initial.answers l.answers l.x
