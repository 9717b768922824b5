-- Yes; or a refusal's number; or the place of the first id of the round that has no such window.
use Rattle.std.specs.Prelude.{ℕ}

pub data DatesAnswer : Type 0 where
  Yes : DatesAnswer
  Refused : ℕ → DatesAnswer
  Outside : ℕ → DatesAnswer
