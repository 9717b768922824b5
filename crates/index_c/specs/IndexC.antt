-- The index for C: h is what a call is lent (record, counts, buffer) with the words of the slots, h' and words'
-- what it leaves. A record with a mode or a choice of repeats that is neither 0 nor 1 fits no buffer: refusal 2, and
-- nothing changes.
use Rattle.std.specs.Prelude.{ℕ, ◌*◌, ◌≤◌, ◌≡◌, true, cond, List, length, get_or, ltb}
use Rattle.image.specs.Image.{Entry}
use Rattle.writer.specs.Put.{appended}
use Rattle.writer.specs.CRecord.{CState, known_in, state_in, c_state_of}
use Rattle.index.specs.Refusals.{refusal_by_slots}
use Rattle.index.specs.Index.{slot_count, slots_after, Right, indexed_refusal, after_indexed, index_refusal}
use Rattle.jhash.specs.Refusals as refused

-- two slots a name, two words a slot; where that exceeds 64 bits, the largest number of 64 bits
abbrev pub index_words : ℕ → ℕ
index_words names = cond (ltb 18446744073709551615 (4 * names)) 18446744073709551615 (4 * names)

-- the index is right for what is lent
pub record RightHeld (h : CState) (words : List ℕ) : Type 0 where
  pub known : known_in h ≡ true
  pub index : Right (state_in h) words

-- the put by whatever slots are lent: the refusal's number, 0 when accepted
unfoldable pub put_by_slots_number : CState → List ℕ → Entry → ℕ
put_by_slots_number h words e = cond (known_in h) (refusal_by_slots (state_in h) words e) refused.unfit

-- the rule of the put by an index: the refusal's number, and what it leaves
unfoldable pub put_indexed_number : CState → List ℕ → Entry → ℕ
put_indexed_number h words e = cond (known_in h) (indexed_refusal (state_in h) words e) refused.unfit

unfoldable pub left_by_put_indexed : CState → List ℕ → Entry → CState
left_by_put_indexed h words e = cond (known_in h) (c_state_of (after_indexed (state_in h) words e)) h

pub record PutIndexedHeld (h : CState) (words : List ℕ) (e : Entry) (refusal : ℕ) (h' : CState)
    (words' : List ℕ) : Type 0 where
  -- whatever is lent, the refusal is that of the checks in their order; it changes nothing, and an accepted put appends
  -- the entry and with repeats off inserts its slot
  pub number : refusal ≡ put_by_slots_number h words e
  pub refused : (refusal ≡ 0 → ⊥) → (h' ≡ h) × (words' ≡ words)
  pub accepted : refusal ≡ 0
      → (known_in h ≡ true)
      × (h' ≡ c_state_of (appended (state_in h) e))
      × (words' ≡ slots_after (state_in h) words e)
  -- by a right index, the rule's number and what it leaves, and the index is right again
  pub answer : RightHeld h words → refusal ≡ put_indexed_number h words e
  pub leaves : RightHeld h words → h' ≡ left_by_put_indexed h words e
  pub right : RightHeld h words → RightHeld h' words'

-- making an index: the rule's number; a refusal changes nothing; 0 gives a right index, and keeps an odd last word
unfoldable pub index_number : CState → List ℕ → ℕ
index_number h words = cond (known_in h) (index_refusal (state_in h) words) refused.unfit

pub record IndexedHeld (h : CState) (words : List ℕ) (refusal : ℕ) (words' : List ℕ) : Type 0 where
  pub answer : refusal ≡ index_number h words
  pub refused : (refusal ≡ 0 → ⊥) → words' ≡ words
  pub right : refusal ≡ 0 → length h.counts ≡ 256 → RightHeld h words'
  pub long : length words' ≡ length words
  pub last : (i : ℕ) → 2 * slot_count words ≤ i → get_or words' i 0 ≡ get_or words i 0
