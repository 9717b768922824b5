-- `consistency::matching::has_match_in` meets its contract. The loop's invariant: what is left of the search matches the id exactly
-- when the whole search does.
-- Assumes nothing.
use Rattle.std.proofs.Common.{◌-◌}
use Rattle.consistency.proofs.MatchSearch.{MatchInv}
use Rattle.consistency.proofs.matching.has_match_in.Given as goal

abbrev pub invariant-loop : goal.invariant-loop
invariant-loop l = MatchInv l.image l.name l.h l.at l.n l.id l.k (l.n - l.counter)
