-- The exported page: the outcome as a struct of two numbers. Assumes nothing.
use Rattle.std.specs.Prelude.{ℕ, List}
use Rattle.jhash.specs.Outcome.{Outcome, value, refusal}
use Rattle.page.specs.Call.{printing, part_printing}
use Rattle.reader_c.specs.declared.pages.PageAnswer.{PageAnswer}

-- a page is accepted, 0, and its length stands beside it; a refusal has its number, and 0 for the length
abbrev pub page_answer_of : Outcome ℕ → PageAnswer
page_answer_of (value n) = record { refusal = 0; length = n }
page_answer_of (refusal k) = record { refusal = k; length = 0 }

-- the rules of the calls, so answered
abbrev pub page_answer : List ℕ → ℕ → PageAnswer
page_answer image room = page_answer_of (printing image room)

abbrev pub part_answer : List ℕ → ℕ → ℕ → ℕ → PageAnswer
part_answer image first count room = page_answer_of (part_printing image first count room)
