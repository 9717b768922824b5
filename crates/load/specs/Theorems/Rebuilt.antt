-- What is proved of the load (`rebuilt` in proofs/Theorem): 02 (xiii), for all seeds and buffers. That the states of
-- a seed do not repeat is not claimed.
use Rattle.std.specs.Prelude.{ℕ, zero, suc, ◌+◌, ◌*◌, ◌-◌, ◌/◌, ◌^◌, ◌≤◌, ◌<◌, min, ◌≡◌, cond, List, [], ◌∷◌, ◌++◌}
use Rattle.std.specs.Prelude.{length, take, drop, ltb}
use Rattle.jhash.specs.Outcome.{value, refusal}
use Rattle.jhash.specs.Refusals as refused
use Rattle.image.specs.declared.Mode.TheVariants.{Twoway}
use Rattle.image.specs.Image.{Entry, head_size}
use Rattle.writer.specs.declared.Repeats.TheVariants.{On}
use Rattle.writer.specs.Close.{closing}
use Rattle.writer.specs.Put.{put_refusal}
use Rattle.lists.specs.Calls.{Call, put_all}
use Rattle.lists.specs.Demand3.{after_list, accepted_puts, image_of, OneList}
use Rattle.load.specs.States.{state_after, state_name, load_entry}
use Rattle.load.specs.Load.{load_put, loading, after_load}

-- the first n entries of a seed, and their puts as a list of calls
unfoldable pub first_entries : ℕ → ℕ → List Entry
first_entries seed zero = []
first_entries seed (suc n) = first_entries seed n ++ (load_entry seed n ∷ [])

unfoldable pub first_puts : ℕ → ℕ → List Call
unfolding first_entries put_all
first_puts seed n = put_all (first_entries seed n)

-- how many entries a buffer of n bytes has room for: each takes 38 bytes of the image, 34 by 01's formula with a name
-- of 9 bytes and 4 in the back array
abbrev pub room_for : ℕ → ℕ
room_for n = min 4096 ((n - head_size) / 38)

-- the number that uppercase hexadecimal digits write, the most significant first; v is what those before them wrote
unfoldable pub hex_from : ℕ → List ℕ → ℕ
hex_from v [] = v
hex_from v (b ∷ bs) = hex_from (v * 16 + cond (ltb b 58) (b - 48) (b - 55)) bs

-- a load in a buffer in which a writer can begin; k is the number of its accepted entries
pub record LoadHolds (seed : ℕ) (buffer : List ℕ) (k : ℕ) : Type 0 where
  pub given : loading seed buffer ≡ value k
  -- it is a list of calls as in demand 3, the puts of the first k entries, all accepted, and a close; so all of
  -- demand 3 holds of it
  pub listed : load_put seed buffer ≡ after_list Twoway On buffer (first_puts seed k)
  pub all_accepted : accepted_puts Twoway On buffer (first_puts seed k) ≡ first_entries seed k
  pub demand3 : OneList On buffer (first_puts seed k)
  pub closes : closing (load_put seed buffer) ≡ value (head_size + 38 * k)
  pub imaged : take (head_size + 38 * k) (after_load seed buffer) ≡ image_of Twoway On buffer (first_puts seed k)
  -- the bytes behind the image keep their content
  pub kept : drop (head_size + 38 * k) (after_load seed buffer) ≡ drop (head_size + 38 * k) buffer
  -- until 4,096 are accepted or one is refused: where fewer are, the next one has no room
  pub stops : k < 4096 → put_refusal (load_put seed buffer) (load_entry seed k) ≡ refused.no_room

pub record Rebuilt : Type 0 where
  -- a state is below 2^32, and its eight digits read back as the state
  pub state_word : (seed n : ℕ) → state_after seed (suc n) < 2 ^ 32
  pub digits_read : (s : ℕ) → s < 2 ^ 32 → hex_from 0 (drop 1 (state_name s)) ≡ s
  pub nine_bytes : (s : ℕ) → length (state_name s) ≡ 9
  -- the number of accepted entries follows from the buffer's length alone, whatever the seed
  pub loaded : (seed : ℕ) (buffer : List ℕ) → head_size ≤ length buffer
      → LoadHolds seed buffer (room_for (length buffer))
  -- with 157,720 bytes or more all 4,096 are accepted, and the size is then 157,720
  pub all_loaded : (seed : ℕ) (buffer : List ℕ) → 157720 ≤ length buffer → LoadHolds seed buffer 4096
  pub full_size : head_size + 38 * 4096 ≡ 157720
  -- a buffer too short to begin gives 1, and keeps every byte
  pub too_short : (seed : ℕ) (buffer : List ℕ) → length buffer < head_size → loading seed buffer ≡ refusal 1
  pub untouched : (seed : ℕ) (buffer : List ℕ) → length buffer < head_size → after_load seed buffer ≡ buffer
