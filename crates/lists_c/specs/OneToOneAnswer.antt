-- The exported call: the rule's answer as a struct of four numbers. Assumes nothing.
use Rattle.std.proofs.Math.Option.{Option, none, some}
use Rattle.jhash.specs.Outcome.{Outcome, value, refusal}
use Rattle.one_to_one.specs.OneToOne.{Failure}
use Rattle.lists_c.specs.declared.pairs.OneToOneAnswer.{OneToOneAnswer}

-- 1 for yes, or kind and offset of the first failure, or the refusal's number; 0 for what does not apply
abbrev pub one_to_one_answer : Outcome (Option Failure) → OneToOneAnswer
one_to_one_answer (value none) = record { refusal = 0; ok = 1; kind = 0; offset = 0 }
one_to_one_answer (value (some f)) = record { refusal = 0; ok = 0; kind = f.kind; offset = f.offset }
one_to_one_answer (refusal k) = record { refusal = k; ok = 0; kind = 0; offset = 0 }
