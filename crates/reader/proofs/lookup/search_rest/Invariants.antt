-- `reader::lookup::search_rest` meets its contract. The loop's invariant: what is left of the search, from here on, answers what was left at the start.
-- Assumes nothing.
use Rattle.std.proofs.Common.{◌-◌}
use Rattle.reader.proofs.Searches.{RestInv}
use Rattle.reader.proofs.lookup.search_rest.Given as goal

abbrev pub invariant-loop-i : goal.invariant-loop-i
invariant-loop-i l = RestInv l.image l.name l.h l.at l.n l.first l.m l.k (l.m - l.i)
