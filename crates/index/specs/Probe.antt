-- A probe of the slots for a name, whatever words are lent.
use Rattle.std.specs.Prelude.{ℕ, ◌+◌, Bool, true, false, cond, ◌&&◌, List, [], ◌∷◌, eqb}
use Rattle.image.specs.Tables.{Bucket}
use Rattle.reader.specs.Lookup.{Probe, pass, ends, hit, probe_entry}
use Rattle.index.specs.Index.{slot_count, slot_at, slot_sequence}

-- did the comparison with an entry find the name?
abbrev pub is_hit : Probe → Bool
is_hit pass = false
is_hit ends = false
is_hit (hit found) = true

-- has the entry at an offset this name?
abbrev pub has_name_at : List ℕ → List ℕ → ℕ → Bool
has_name_at bytes name at = is_hit (probe_entry bytes name at)

-- a probe of m slots for the hash h, along some of them: the first empty slot, or m + 1 if a slot before it has the
-- hash and an offset at which v says that the entry has the name; m if neither is met
unfoldable pub probe_along : ℕ → (ℕ → Bucket) → ℕ → (ℕ → Bool) → List ℕ → ℕ
probe_along m b h v [] = m
probe_along m b h v (k ∷ ks) =
    cond (eqb (b k).at 0) k (cond (eqb (b k).hash h && v (b k).at) (m + 1) (probe_along m b h v ks))

-- along the probe sequence
abbrev pub probe_slots : List ℕ → ℕ → (ℕ → Bool) → ℕ
probe_slots words h v = probe_along (slot_count words) (slot_at words) h v (slot_sequence words h)
