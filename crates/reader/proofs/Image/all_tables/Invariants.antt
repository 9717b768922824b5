-- `reader::Image::all_tables` meets its contract. The loop's invariant: the sum so far and the halves that are left are the sum of all, and while
-- the bitwise or of the slacks is below 2^63, a table that reaches past the end is still to come exactly where there is one. Assumes nothing.
use Rattle.reader.proofs.Opens.{TablesInv}
use Rattle.reader.proofs.Image.all_tables.Given as goal

abbrev pub invariant-loop-t : goal.invariant-loop-t
invariant-loop-t l = TablesInv l.self.bytes.now l.all l.t
