-- `jhash::hash_or_zero` meets its contract: the default stands where the name is too long. Assumes nothing.
use Rattle.std.proofs.Common.{◌≡◌, ℕ, Result, Ok, Err, List, refl, sym, ◌∙◌}
use Rattle.std.specs.Result.{result_unwrap_or}
use Rattle.jhash.specs.declared.refusals.Refusal.{Refusal}
use Rattle.jhash.specs.Outcome.{outcome_of}
use Rattle.jhash.specs.NameHash.{hash_outcome, hash_or_zero}
use Rattle.jhash.proofs.Outcomes.{result_name_hash, result_refused, hash_or_zero_short, hash_or_zero_long}
use Rattle.jhash.proofs.hash_or_zero.Goals as goal

or_zero : (name : List ℕ) (r : Result ℕ Refusal) → outcome_of r ≡ hash_outcome name 0 → result_unwrap_or r 0 ≡ hash_or_zero name
or_zero name (Ok h) promise = let told = result_name_hash name (Ok h) h promise refl in told.1 ∙ sym (hash_or_zero_short name told.0)
or_zero name (Err why) promise = sym (hash_or_zero_long name (result_refused name 0 (Err why) why promise refl))

pub returns : goal.returns
returns c = c.unwrap_or.ensures ∙ or_zero c.args.name.now c.name_hash.result c.name_hash.ensures
