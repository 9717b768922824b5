-- The answer's cases: what each case of the Option that the call answers says.
use Rattle.std.specs.Prelude.{ℕ, Option, Some, None}
use Rattle.order.specs.Rule.{Verdict, all_kept, fails_at}

abbrev pub verdict_of : Option ℕ → Verdict
verdict_of None = all_kept
verdict_of (Some k) = fails_at k
