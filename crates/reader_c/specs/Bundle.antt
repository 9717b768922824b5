-- The exported calls on a bundle: each rule's answer as numbers, zeros where it is refused. Assumes nothing.
use Rattle.std.specs.Prelude.{ℕ}
use Rattle.jhash.specs.Outcome.{Outcome, value, refusal}
use Rattle.bundle.specs.Opening.{OpenedImage}
use Rattle.reader_c.specs.declared.bundles.BundleOpenAnswer.{BundleOpenAnswer}
use Rattle.reader_c.specs.declared.bundles.BundleAppendAnswer.{BundleAppendAnswer}
use Rattle.reader_c.specs.declared.bundles.BundleCountAnswer.{BundleCountAnswer}

-- an opened image: num, and where it stands in the file
abbrev pub open_at_answer : Outcome OpenedImage → BundleOpenAnswer
open_at_answer (value w) = record { refusal = 0; num = w.num; start = w.place.start; size = w.place.size }
open_at_answer (refusal k) = record { refusal = k; num = 0; start = 0; size = 0 }

-- the joined length
abbrev pub append_answer : Outcome ℕ → BundleAppendAnswer
append_answer (value n) = record { refusal = 0; length = n }
append_answer (refusal k) = record { refusal = k; length = 0 }

-- the number of images
abbrev pub count_answer : Outcome ℕ → BundleCountAnswer
count_answer (value n) = record { refusal = 0; images = n }
count_answer (refusal k) = record { refusal = k; images = 0 }
