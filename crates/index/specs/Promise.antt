-- What the calls by an index promise: s and words before the call, t and words' after it.
use Rattle.std.specs.Prelude.{ℕ, ◌*◌, ◌≤◌, ◌≡◌, List, length, get_or}
use Rattle.image.specs.Image.{Entry}
use Rattle.writer.specs.State.{State}
use Rattle.writer.specs.Put.{appended}
use Rattle.index.specs.Index.{slot_count, slots_after, Right, indexed_refusal, after_indexed, index_refusal}
use Rattle.index.specs.Refusals.{refusal_by_slots}

-- a put by the index
pub record PutIndexed (s : State) (words : List ℕ) (e : Entry) (refusal : ℕ) (t : State)
    (words' : List ℕ) : Type 0 where
  -- whatever is lent, the refusal is that of the checks in their order; it changes nothing, and an accepted put appends
  -- the entry and with repeats off inserts its slot
  pub number : refusal ≡ refusal_by_slots s words e
  pub refused : (refusal ≡ 0 → ⊥) → (t ≡ s) × (words' ≡ words)
  pub accepted : refusal ≡ 0 → (t ≡ appended s e) × (words' ≡ slots_after s words e)
  -- by a right index, refusal and state are the rule's, and the index is right again
  pub answer : Right s words → refusal ≡ indexed_refusal s words e
  pub leaves : Right s words → t ≡ after_indexed s words e
  pub right : Right s words → Right t words'

-- making an index: the rule's refusal, which changes nothing; else a right index, and an odd last word as it was
pub record Indexed (s : State) (words : List ℕ) (refusal : ℕ) (words' : List ℕ) : Type 0 where
  pub answer : refusal ≡ index_refusal s words
  pub refused : (refusal ≡ 0 → ⊥) → words' ≡ words
  pub right : refusal ≡ 0 → length s.counts ≡ 256 → Right s words'
  pub long : length words' ≡ length words
  pub last : (i : ℕ) → 2 * slot_count words ≤ i → get_or words' i 0 ≡ get_or words i 0
