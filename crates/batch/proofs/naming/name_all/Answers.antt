-- `batch::naming::name_all` meets its contract. The loop's invariant: the places passed hold their words. Assumes nothing.
use Prim.Native.Nat.{ℕ}
use native.Mathlib.Omega.{arith}
use mathlib.Core.Path.{sym, ap, subst, ◌∙◌}
use mathlib.Core.List.{List}
use lib.ListN.{get_or}
use Rattle.reader.specs.Naming.{Naming, naming}
use Rattle.reader.proofs.Lengths.{naming_small}
use Rattle.batch.specs.NameRound.{place_words}
use Rattle.batch.specs.Steps.Answers.{put_words, Has}
use Rattle.batch.proofs.AnswerPlaces.{has_after}
use Rattle.batch.proofs.PlaceWords.{all_places}
use Rattle.batch.proofs.naming.name_all.Goals as goal

pub put_place-requires-clause-short : goal.put_place-requires-clause-short
put_place-requires-clause-short c =
    rw c.to_str.ensures (naming_small c.args.image.now (get_or c.args.ids.now c.loop-i.i 0) (λ (i : ℕ). omega (arith, c.type_inv.image i)))

pub loop-i-preserved : goal.loop-i-preserved
loop-i-preserved c =
    let a = c.args in
    let word : ℕ → List ℕ = λ j. place_words (naming a.image.now (get_or a.ids.now j 0)) in
    let after = c.put_place.ensures ∙ ap (λ (x : Naming). put_words c.loop-i.answers c.loop-i.i (place_words x)) c.to_str.ensures in
    record {
      inside = omega arith;
      long = c.put_place.auto.answers ∙ c.loop-i.invariant.long;
      stored = λ j h.
          subst (λ (r : List ℕ). Has r j (word j)) (sym after)
          (has_after c.loop-i.answers c.loop-i.i (word c.loop-i.i) (omega (arith, c.requires, c.loop-i.invariant.long)) j (word j)
          (λ e w k. ap (λ (n : ℕ). get_or (word n) w 0) (sym e)) (λ other. c.loop-i.invariant.stored j (omega arith)));
    }

pub returns : goal.returns
returns c =
    let a = c.args in
    all_places a.image.now a.ids.now c.loop-i.answers (omega (arith, c.loop-i.invariant.long, c.requires))
    (λ i h. c.loop-i.invariant.stored i (omega (arith, c.loop-i-test.false)))
