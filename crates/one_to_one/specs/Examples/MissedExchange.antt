-- An exchange that `moved` does not find: the new image has the old puts, and both names again with the other id. Its
-- ids give their last names, which are exchanged, but its names still find their first ids.
use Rattle.std.specs.Prelude.{ℕ, ◌≡◌, List, [], ◌∷◌}
use Rattle.std.proofs.Math.Option.{none}
use Rattle.jhash.specs.Outcome.{value}
use Rattle.image.specs.declared.Mode.TheVariants.{Twoway}
use Rattle.image.specs.Image.{image}
use Rattle.changes.specs.Moves.{moved}
use Rattle.one_to_one.specs.OneToOne.{one_to_one}
use Rattle.one_to_one.specs.Theorems.Exchanges.{Exchanged}
use Rattle.one_to_one.specs.Examples.Rows.{A, B, fails}

abbrev pub old : List ℕ
old = image Twoway (A 0 ∷ B 1 ∷ [])

abbrev pub new : List ℕ
new = image Twoway (A 0 ∷ B 1 ∷ B 0 ∷ A 1 ∷ [])

pub record ExchangeMissed : Type 0 where
  pub exchanged : Exchanged old new 0 1
  pub first_missed : moved old new 0 ≡ none
  pub second_missed : moved old new 1 ≡ none
  -- the new image is not one to one: A finds 0, but id 0 gives B
  pub not_one_to_one : one_to_one new ≡ value (fails 2 2072)
