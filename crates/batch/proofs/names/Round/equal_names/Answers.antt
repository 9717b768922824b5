-- `batch::names::Round::equal_names` meets its contract. Assumes nothing.
use Rattle.std.proofs.Common.{◌<◌, length, get_or, sym, ◌∙◌, ne_eqb, arith}
use Rattle.image.proofs.Equal.{same_false}
use Rattle.image.proofs.NameEnds.{length_names}
use Rattle.batch.specs.RoundNames.{nth}
use Rattle.batch.specs.Steps.Duplicates.{round_names}
use Rattle.batch.proofs.Duplicates.{other_hash}
use Rattle.batch.proofs.names.Round.equal_names.Goals as goal

pub returns-else-self-j : goal.returns-else-self-j
returns-else-self-j c =
    let r = c.args.self.now in
    let xs = round_names r in
    let size = length_names r.names.bytes.now r.names.ends.now in
    let i : c.args.i < length xs = omega (arith, c.requires.second) in
    let j : c.args.j < length xs = omega (arith, c.requires.first) in
    let other = c.if-self-j.false in
    ne_eqb (get_or r.hashes.now c.args.j 0) (get_or r.hashes.now c.args.i 0) other
    ∙ sym (same_false (nth xs c.args.j) (nth xs c.args.i) (other_hash xs r.hashes.now r.hashed.hashed c.args.j c.args.i j i other))
