-- Yes, or the first question that fails, with the ids and the places in the round that show it; a sheet is refused with
-- the refusal's number.
use Rattle.std.specs.Prelude.{ℕ}

pub data Verdict : Type 0 where
  Yes : Verdict
  NewRefused : Verdict
  SheetRefused : ℕ → Verdict
  OffSheet : ℕ → Verdict
  EmptyRound : Verdict
  Nameless : ℕ → Verdict
  OneName : ℕ → ℕ → Verdict
  OldRefused : Verdict
  NothingAlike : Verdict
  Renamed : ℕ → Verdict
  NameTaken : ℕ → ℕ → Verdict
