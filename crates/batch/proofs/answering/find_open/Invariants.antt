-- `batch::answering::find_open` meets its contract. The loop's invariant: the names passed have their answers. Assumes nothing.
use Rattle.batch.proofs.AnswerPlaces.{Finding}
use Rattle.batch.proofs.answering.find_open.Given as goal

abbrev pub invariant-loop-number : goal.invariant-loop-number
invariant-loop-number l = Finding l.round l.list l.initial.answers l.answers l.number-index
