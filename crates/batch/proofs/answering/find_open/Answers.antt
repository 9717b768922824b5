-- `batch::answering::find_open` meets its contract. The loop's invariant: the names passed have their answers. Assumes nothing.
use Prim.Native.Nat.{◌<◌}
use native.Mathlib.Omega.{arith}
use mathlib.Core.Path.{ap, ◌∙◌}
use lib.ListN.{length, get_or}
use Rattle.reader.specs.Cases.{lookup_of}
use Rattle.reader.proofs.Searches.{from_whole}
use Rattle.batch.specs.Steps.Answers.{put_words}
use Rattle.batch.proofs.Lookups.{stored_hash_below}
use Rattle.batch.proofs.AnswerPlaces.{finding_step}
use Rattle.batch.proofs.answering.find_open.Goals.{In-loop-number}
use Rattle.batch.proofs.answering.find_open.Goals as goal

-- the next listed number is one of the names
below : (c : In-loop-number) → get_or c.args.list.now c.loop-number.number-index 0 < length c.args.round.now.names.ends.now
below c = c.requires.listed.below c.loop-number.number-index c.loop-number-test.true

pub search_from-answer-requires : goal.search_from-answer-requires
search_from-answer-requires c =
    omega (arith, stored_hash_below c.args.round.now.hashed _ (below (goal.at.search_from-answer-requires c).In-loop-number), c.requires.small)

pub loop-number-preserved : goal.loop-number-preserved
loop-number-preserved c =
    let r = c.args.round.now in
    let still = c.requires.is_open c.loop-number.number-index c.loop-number-test.true in
    let h = get_or r.hashes.now (get_or c.args.list.now c.loop-number.number-index 0) 0 in
    let answer = from_whole r.image.now c.name.result.now h c.args.c (λ head. still c.name.result.now) in
    finding_step c.requires.listed r.hashed (lookup_of c.search_from-answer.result) c.loop-number-test.true c.name.ensures
    (c.search_from-answer.ensures ∙ answer)
    c.put_answer.ensures
    c.loop-number.invariant
