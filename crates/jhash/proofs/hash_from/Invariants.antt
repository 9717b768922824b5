-- `jhash::hash_from` meets its contract. The loop's invariant: the hash of what is left, from the words that are reached, is the
-- hash of the whole. The measure is the length of what is left. Assumes nothing.
use Rattle.std.proofs.Common.{◌≡◌, [], ◌∷◌, ◌++◌, length}
use Rattle.jhash.specs.Lookup3.{equal_words, hash_rest}
use Rattle.jhash.proofs.hash_from.Given as goal

abbrev pub invariant-loop-t : goal.invariant-loop-t
invariant-loop-t l = hash_rest l.words (l.t ++ 0 ∷ []) ≡ hash_rest (equal_words l.x) (l.name ++ 0 ∷ [])

abbrev pub decreases-loop-t : goal.decreases-loop-t
decreases-loop-t l = length l.t
