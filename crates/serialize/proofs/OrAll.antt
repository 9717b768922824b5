-- Counts that are joined bit by bit: the join is a bound of each. Assumes nothing.
use Rattle.std.proofs.Common.{◌≡◌, ℕ, ◌+◌, ◌<◌, ◌≤◌, true, leb, List, get_or, sym, arith, le-leb, leb-true}
use native.Mathlib.Decide.{dec_lt}
use lib.Bits.{bit_or}
use Rattle.image.proofs.AllOfRange.{all_true, all_each}
use Rattle.image.proofs.BitOr.{le_or_l, le_or_r}
use Rattle.serialize.specs.Record.{none_above}

module _ (counts : List ℕ) where
  -- one step of the loop: one more count is joined
  pub or_more : (t a : ℕ) → ((i : ℕ) → i < t → get_or counts i 0 ≤ a)
      → (i : ℕ) → i < t + 1 → get_or counts i 0 ≤ bit_or a (get_or counts t 0)
  or_more t a h i k =
      elim (dec_lt i t) [
        | yes p ↦ omega (arith, h i p, le_or_l a (get_or counts t 0))
        | no p ↦ let e : i ≡ t = omega (arith, p) in rw e (le_or_r a (get_or counts t 0))
      ]

  -- a bound of all counts that the entries reach settles that none is above them
  pub bounded : (a entries : ℕ) → ((t : ℕ) → t < 256 → get_or counts t 0 ≤ a) → a ≤ entries → true ≡ none_above counts entries
  bounded a entries h k = sym (all_true (λ (t : ℕ). leb (get_or counts t 0) entries) 0 256 below)
    where
      below : (i : ℕ) → i < 256 → leb (get_or counts (0 + i) 0) entries ≡ true
      below i p = let z : 0 + i ≡ i = omega arith in rw z (le-leb (get_or counts i 0) entries (omega (arith, h i p)))

  -- and that is a bound of each
  pub each_within : (most : ℕ) → none_above counts most ≡ true → (t : ℕ) → t < 256 → get_or counts t 0 ≤ most
  each_within most h t k =
      let z : 0 + t ≡ t = omega arith in
      rw z at (leb-true (get_or counts (0 + t) 0) most (all_each (λ (i : ℕ). leb (get_or counts i 0) most) 0 256 t h k))
