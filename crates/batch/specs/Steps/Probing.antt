-- What the passes over a round's open searches ask and promise.
use Rattle.std.specs.Prelude.{ℕ, ◌+◌, ◌≤◌, ◌<◌, ◌≡◌, ◌⊎◌, ◌==◌, Bool, true, false, not, ◌&&◌, List, length, get_or}
use Rattle.image.specs.Image.{head_size}
use Rattle.reader.specs.Lookup.{nothing, probe_entry, decide, lookup_hash}
use Rattle.reader.specs.Steps.Resume.{search_from}
use Rattle.batch.specs.Steps.Duplicates.{Listed, RisingTo}
use Rattle.batch.specs.RoundNames.{most_names}

-- the search for the hash h is open after c buckets: what is left of it answers what the whole search does, whatever
-- the name
abbrev pub SearchOpen : List ℕ → ℕ → ℕ → Type 0
SearchOpen image h c = (name : List ℕ) → search_from image name h c ≡ lookup_hash image name h

-- the c-th bucket of the search for the hash h has the offset e. Empty, it ends the search; else its entry decides,
-- unless that has another name: then the search goes on
pub record SearchDecided (image : List ℕ) (h c e : ℕ) : Type 0 where
  pub head : head_size ≤ length image
  pub empty : e ≡ 0 → (name : List ℕ) → nothing c ≡ lookup_hash image name h
  pub by_entry : 0 < e → (name : List ℕ)
      → decide (probe_entry image name e) c (search_from image name h c) ≡ lookup_hash image name h

-- a search for the hash h passes a bucket of another hash that is not empty
abbrev pub passes : ℕ → ℕ → ℕ → Bool
passes hash h offset = not (hash == h) && not (offset == 0)

pub record ProbeNextPre (image : List ℕ) (h c : ℕ) : Type 0 where
  pub small : c < 512
  pub is_open : SearchOpen image h c

-- what the c-th bucket of a search says: the search is open behind it, or its offset decides
pub record NextProbed (image : List ℕ) (h c offset : ℕ) (stays : Bool) : Type 0 where
  pub is_open : stays ≡ true → SearchOpen image h c
  pub decided : stays ≡ false → SearchDecided image h c offset

-- ---- a pass: the searches listed in `live` are open after c buckets, and each reads its next one

pub record PassPre (image hashes live : List ℕ) (c : ℕ) : Type 0 where
  pub head : head_size ≤ length image
  pub small : c < 512
  pub few : length live ≤ most_names
  pub rising : RisingTo live (length live)
  pub hashed : (z : ℕ) → z < length live → get_or live z 0 < length hashes
  pub is_open : (z : ℕ) → z < length live → SearchOpen image (get_or hashes (get_or live z 0) 0) c

-- one of z searches that is open after c buckets, and one whose c-th bucket decides
pub record StillOpen (image hashes first : List ℕ) (z c i : ℕ) : Type 0 where
  pub listed : Listed first z i
  pub is_open : SearchOpen image (get_or hashes i 0) c

pub record NowDecided (image hashes first : List ℕ) (z c i e : ℕ) : Type 0 where
  pub listed : Listed first z i
  pub decided : SearchDecided image (get_or hashes i 0) c e

-- of the first `read` searches listed in `first`, `opens` are open after c buckets, listed in `live`, and `decides` are
-- decided by their c-th, listed in `done`. Each is in one of the two lists, none in both; the lists rise, so none is in
-- one twice
pub record OpenOrDecided (image hashes first live done offsets : List ℕ) (c opens decides read : ℕ) : Type 0 where
  pub count : opens + decides ≡ read
  pub each : (y : ℕ) → y < read → Listed live opens (get_or first y 0) ⊎ Listed done decides (get_or first y 0)
  pub is_open : (y : ℕ) → y < opens → StillOpen image hashes first read c (get_or live y 0)
  pub decided : (y : ℕ) → y < decides → NowDecided image hashes first read c (get_or done y 0) (get_or offsets y 0)
  pub live_rising : RisingTo live opens
  pub done_rising : RisingTo done decides
  pub disjoint : (x : ℕ) → x < opens → (y : ℕ) → y < decides → get_or live x 0 ≡ get_or done y 0 → ⊥
