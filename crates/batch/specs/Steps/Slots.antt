-- The slots by which a round finds equal names: open addressing, by the rule of the image's own tables, as in an index.
use Rattle.std.specs.Prelude.{ℕ, ◌+◌, ◌≤◌, ◌<◌, ◌≡◌, List, ◌∷◌, map, length, get_or}
use Rattle.image.specs.Bytes.{Each}
use Rattle.image.specs.Tables.{Bucket, Filled}
use Rattle.batch.specs.RoundNames.{nth}

-- a slot has the number of a name, counted from 1, or 0 where it is empty. The name's hash stands in the list of hashes
abbrev pub bucket_of_number : List ℕ → ℕ → Bucket
bucket_of_number hashes q = record { hash = get_or (0 ∷ hashes) q 0; at = q }

abbrev pub round_slot : List ℕ → List ℕ → ℕ → Bucket
round_slot hashes slots k = bucket_of_number hashes (get_or slots k 0)

-- how many slots there are
abbrev pub slot_number : ℕ
slot_number = 4096

-- the slots hold some of the first i names, among them one that equals each
pub record SlotsHold (xs : List (List ℕ)) (hashes slots : List ℕ) (i : ℕ) : Type 0 where
  pub held : List ℕ
  pub size : length slots ≡ slot_number
  pub filled_with : Filled slot_number (round_slot hashes slots) (map (λ (u : ℕ). bucket_of_number hashes (u + 1)) held)
  pub few : length held ≤ i
  pub below : Each (λ (u : ℕ). u < i) held
  pub covers : (y : List ℕ) → Each (λ (u : ℕ). nth xs u ≡ y → ⊥) held
      → (j : ℕ) → j < i → nth xs j ≡ y → ⊥
