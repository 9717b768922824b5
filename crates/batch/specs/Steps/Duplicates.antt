-- What the steps that find duplicates ask and promise.
use Rattle.std.specs.Prelude.{ℕ, ◌+◌, ◌-◌, ◌≤◌, ◌<◌, ◌≡◌, List, map, length, get_or, take}
use Rattle.batch.specs.RoundNames.{names, different, nth}
use Rattle.batch.specs.Steps.Slots.{SlotsHold}
use Rattle.batch.specs.declared.names.Round.{Round}

-- the names of a round
abbrev pub round_names : Round → List (List ℕ)
round_names round = names round.names.bytes.now round.names.ends.now

-- x where q is 0, else 0
pub record IfZero (q x r : ℕ) : Type 0 where
  pub own : q ≡ 0 → r ≡ x
  pub none : 0 < q → r ≡ 0

-- ---- lists of numbers

-- a number stands among the first n of a list
pub record Listed (l : List ℕ) (n i : ℕ) : Type 0 where
  pub place : ℕ
  pub inside : place < n
  pub is : get_or l place 0 ≡ i

-- the first n of a list rise, so no number stands among them twice
abbrev pub RisingTo : List ℕ → ℕ → Type 0
RisingTo l n = (x y : ℕ) → x < y → y < n → get_or l x 0 < get_or l y 0

-- ---- equal names

-- no name before the i-th equals it
abbrev pub IsFirst : List (List ℕ) → ℕ → Type 0
IsFirst xs i = (j : ℕ) → j < i → nth xs j ≡ nth xs i → ⊥

-- q is the number, counted from 1, of a name before the i-th that equals it; 0 where there is none
pub record EqualBefore (xs : List (List ℕ)) (i q : ℕ) : Type 0 where
  pub below : q ≤ i
  pub there : 0 < q → nth xs (q - 1) ≡ nth xs i
  pub none : q ≡ 0 → IsFirst xs i

-- the slots hold the names before the i-th
pub record FindOrInsertPre (round : Round) (slots : List ℕ) (i : ℕ) : Type 0 where
  pub holds : SlotsHold (round_names round) round.hashes.now slots i
  pub inside : i < length round.names.ends.now

-- r is the number of a name before the i-th that equals it, or 0, and the slots hold the i-th too
pub record FoundOrInserted (xs : List (List ℕ)) (hashes slots : List ℕ) (i r : ℕ) : Type 0 where
  pub equal : EqualBefore xs i r
  pub holds : SlotsHold xs hashes slots (i + 1)

-- a unique name: by the numbers in `equals`, no earlier one equals it
abbrev pub IsUnique : List ℕ → ℕ → Type 0
IsUnique equals i = get_or equals i 0 ≡ 0

-- of each of the first n names it is known which one before it is equal. The first r of the list are the indexes of the
-- unique ones, each of them and no other, in rising order; these are the different names. Where r is n, all are unique
pub record Deduplicated (xs : List (List ℕ)) (equals unique : List ℕ) (n r : ℕ) : Type 0 where
  pub equal : (i : ℕ) → i < n → EqualBefore xs i (get_or equals i 0)
  pub count : r ≤ n
  pub capacity : r ≤ length unique
  pub below : (x : ℕ) → x < r → get_or unique x 0 < n
  pub only_unique : (x : ℕ) → x < r → IsUnique equals (get_or unique x 0)
  pub rising : RisingTo unique r
  pub listed : (i : ℕ) → i < n → IsUnique equals i → Listed unique r i
  pub listed_names : map (nth xs) (take r unique) ≡ different (take n xs)
  pub all_unique : n ≤ r → (i : ℕ) → i < n → IsUnique equals i
