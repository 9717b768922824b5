-- The places of the names of a round: their words, and the answer list afterwards. Assumes nothing.
use Prim.Native.Nat.{ℕ, ◌*◌, ◌/◌, ◌<◌}
use native.Mathlib.Omega.{arith}
use mathlib.Core.Path.{◌≡◌, refl, sym, ap, ◌∙◌}
use mathlib.Core.Bool.{Bool, cond}
use mathlib.Core.List.{List, ◌++◌}
use borrow.Author.Tests.{lt-ltb, le-ltb}
use lib.Dec.{ltb}
use lib.ListN.{length, get_or, drop}
use Rattle.reader.specs.Naming.{Naming, place, unnamed, naming}
use Rattle.batch.specs.NameRound.{place_words, name_words, name_refusal, after_names}
use Rattle.batch.specs.Steps.Answers.{Has}
use Rattle.batch.proofs.AnswerPlaces.{placed_words}

pub length_place : (x : Naming) → length (place_words x) ≡ 4
length_place (place s n) = refl
length_place unnamed = refl

-- every place holds its words
pub all_places : (image ids l : List ℕ) → length l ≡ 4 * length ids → ((i : ℕ) → i < length ids → Has l i (place_words (naming image (get_or ids i 0))))
    → l ≡ name_words image ids
unfolding name_words
all_places image ids l = placed_words 0 (λ (id : ℕ). place_words (naming image id)) (λ id. length_place (naming image id)) ids l

-- ---- the call, by its tests

pub refusal_by : (ids : List ℕ) (places : ℕ) (a b : Bool) → ltb 512 (length ids) ≡ a → ltb places (length ids) ≡ b
    → cond a 14 (cond b 15 0) ≡ name_refusal ids places
unfolding name_refusal
refusal_by ids places a b ea eb = sym (λ i. cond (ea i) 14 (cond (eb i) 15 0))

pub names_left : (image ids l : List ℕ) (r : ℕ) → r ≡ name_refusal ids (length l / 4) → 0 < r → l ≡ after_names image ids l
unfolding after_names
names_left image ids l r e h =
    sym (ap (λ (t : Bool). cond t l (name_words image ids ++ drop (4 * length ids) l)) (ap (ltb 0) (sym e) ∙ lt-ltb 0 r h))

pub names_stored : (image ids l : List ℕ) → 0 ≡ name_refusal ids (length l / 4) → name_words image ids ++ drop (4 * length ids) l ≡ after_names image ids l
unfolding after_names
names_stored image ids l e =
    sym (ap (λ (t : Bool). cond t l (name_words image ids ++ drop (4 * length ids) l)) (ap (ltb 0) (sym e) ∙ le-ltb 0 0 (omega arith)))
