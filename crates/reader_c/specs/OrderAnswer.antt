-- The exported call: the rule's answer as numbers. Assumes nothing.
use Rattle.order.specs.Rule.{Verdict, all_kept, fails_at}
use Rattle.reader_c.specs.declared.ordering.OrderAnswer.{OrderAnswer}

-- 1 and 0, or 0 and the place of the first pair that fails
abbrev pub order_answer : Verdict → OrderAnswer
order_answer all_kept = record { ok = 1; pair = 0 }
order_answer (fails_at k) = record { ok = 0; pair = k }
