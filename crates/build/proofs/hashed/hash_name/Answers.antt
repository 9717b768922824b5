-- `build::hashed::hash_name` meets its contract. Assumes nothing.
use Rattle.std.proofs.Common.{◌≡◌, ℕ, List, refl, sym, ◌∙◌}
use Rattle.std.specs.Prelude.{Result, Ok, Err}
use Rattle.std.specs.Result.{result_unwrap_or}
use Rattle.jhash.specs.declared.refusals.Refusal.{Refusal}
use Rattle.jhash.specs.Outcome.{outcome_of}
use Rattle.jhash.specs.NameHash.{hash_outcome, hash_or_zero}
use Rattle.jhash.proofs.Outcomes.{result_name_hash, result_refused, hash_or_zero_short, hash_or_zero_long}
use Rattle.build.proofs.hashed.hash_name.Goals as goal

-- what a call of `jhash` answers, or 0
answered : (name : List ℕ) (r : Result ℕ Refusal) → outcome_of r ≡ hash_outcome name 0 → result_unwrap_or r 0 ≡ hash_or_zero name
answered name (Ok h) promise = let told = result_name_hash name (Ok h) h promise refl in told.1 ∙ sym (hash_or_zero_short name told.0)
answered name (Err e) promise = sym (hash_or_zero_long name (result_refused name 0 (Err e) e promise refl))

pub returns : goal.returns
returns c = c.unwrap_or.ensures ∙ answered c.args.name.now c.jhash.result c.jhash.ensures
