-- `jhash::hash_from` meets its contract. The loop's invariant: the hash of what is left, from the words that are reached, is the
-- hash of the whole. The measure is the length of what is left. Assumes nothing.
use Rattle.std.proofs.Common.{◌≡◌, ℕ, ◌-◌, List, [], ◌∷◌, ◌++◌, length, drop, ap, ◌∙◌, arith, length-drop, length-take, take_all}
use Rattle.jhash.specs.Lookup3.{added, mix, final, equal_words, hash_rest}
use Rattle.jhash.specs.declared.Words.{Words}
use Rattle.jhash.proofs.Blocks.{block_step, last_block}
use Rattle.jhash.proofs.hash_from.Goals as goal

pub loop-t-init : goal.loop-t-init
loop-t-init c =
    let name : List ℕ = c.args.name.now in
    ap (λ (t : List ℕ). hash_rest (equal_words c.args.x) (t ++ 0 ∷ [])) (take_all (length name - 0) name (omega arith))

pub loop-t-smaller : goal.loop-t-smaller
loop-t-smaller c = simp (length-take, length-drop) (omega arith)

pub loop-t-preserved : goal.loop-t-preserved
loop-t-preserved c =
    let t : List ℕ = c.loop-t.t.now in
    let w : Words = c.loop-t.words in
    let e : c.jhash_mix-words.result ≡ mix (added w t) = c.jhash_mix-words.ensures ∙ ap mix c.added_block.ensures in
    rw (take_all (length t - 12) (drop 12 t) (simp length-drop (omega arith)), e)
    (block_step w t c.loop-t-test.true ∙ c.loop-t.invariant)

pub returns : goal.returns
returns c =
    let t : List ℕ = c.loop-t.t.now in
    let w : Words = c.loop-t.words in
    c.jhash_final.ensures ∙ ap final c.added_tail.ensures ∙ last_block w t c.loop-t-test.false
    ∙ c.loop-t.invariant
