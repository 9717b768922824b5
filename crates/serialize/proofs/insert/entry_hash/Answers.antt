-- `serialize::insert::entry_hash` meets its contract. Assumes nothing.
use Rattle.std.proofs.Common.{ap, ◌∙◌, arith}
use Rattle.jhash.specs.NameHash.{hash_of}
use Rattle.jhash.proofs.Outcomes.{hash_or_zero_short}
use Rattle.serialize.specs.Steps.Insertion.{entry_hash}
use Rattle.serialize.proofs.insert.entry_hash.Goals as goal

pub returns : goal.returns
unfolding entry_hash
returns c =
    let name = c.name_at in
    c.hash_or_zero.ensures ∙ hash_or_zero_short name.result.now (omega (arith, name.ensures.size, c.requires.length_word, c.requires.some))
    ∙ ap hash_of name.ensures.is
