-- Average search length: 02 (x), what the calls give.
use Rattle.std.specs.Prelude.{ℕ, ◌/◌, ◌%◌, ◌≡◌, Bool, cond, not, List, length, replicate, eqb}
use Rattle.jhash.specs.Outcome.{Outcome, value, refusal}
use Rattle.canonical.specs.Canonical.{canonical, puts_in}
use Rattle.search_length.specs.SearchLengths.{total_of, lengths_from}
use Rattle.search_length.specs.declared.AverageLength.{AverageLength}
use Rattle.jhash.specs.Refusals as refused

-- the number of entries of an image, and the total of buckets read when the name of each is looked up
abbrev pub entry_count : List ℕ → ℕ
entry_count img = length (puts_in img)

unfoldable pub total : List ℕ → ℕ
total img = total_of img (puts_in img)

-- "an image that (ix) says no to gives 17, then one without entries gives 18"
abbrev pub first_refusal : Bool → ℕ → ℕ
first_refusal valid n = cond (not valid) refused.not_canonical (cond (eqb n 0) refused.no_entries 0)

unfoldable pub average_refusal : List ℕ → ℕ
average_refusal img = first_refusal (canonical img) (entry_count img)

-- "the total .. divided by the number of entries, as whole quotient and remainder"
abbrev pub average_of : List ℕ → AverageLength
average_of img = record {
  entries = entry_count img;
  quotient = total img / entry_count img;
  remainder = total img % entry_count img;
}

unfoldable pub averaging : List ℕ → Outcome AverageLength
averaging img = cond (eqb (average_refusal img) 0) (value (average_of img)) (refusal (average_refusal img))

-- how many entries are found after 1, 2, .. 15 and 16 or more buckets: an added call, refused as the average is. A
-- refusal leaves the list as it was
unfoldable pub lengths_of : List ℕ → List ℕ
lengths_of img = lengths_from img (replicate 16 0) (puts_in img)

unfoldable pub after_lengths : List ℕ → List ℕ → List ℕ
after_lengths img counts = cond (eqb (average_refusal img) 0) (lengths_of img) counts

-- what that call promises: its refusal, and the list after it
pub record Lengths (img before after : List ℕ) (refusal : ℕ) : Type 0 where
  pub answer : refusal ≡ average_refusal img
  pub leaves : after ≡ after_lengths img before
