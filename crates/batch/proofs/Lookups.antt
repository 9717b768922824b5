-- The answer of a search that is decided by one bucket's offset, for a name that is not too long. Assumes nothing.
use Prim.Native.Nat.{ℕ, ◌-◌, ◌<◌}
use native.Mathlib.Omega.{arith}
use native.Mathlib.Decide.{dec_lt}
use mathlib.Core.Path.{◌≡◌, sym, ap, ◌∙◌}
use mathlib.Core.Bool.{false}
use mathlib.Core.List.{List}
use borrow.Author.Tests.{le-ltb, lt-leb}
use lib.ListN.{length, get_or, drop, length-take, length-drop}
use Rattle.jhash.proofs.Outcomes.{hash_of_below, hash_or_zero_short, hash_or_zero_long}
use Rattle.image.proofs.NameEnds.{length_names, nth_name}
use Rattle.reader.specs.Lookup.{nothing, Probe, pass, probe_entry, decide, lookup_hash, lookup_by}
use Rattle.reader.specs.Steps.Resume.{search_from, lookup_from}
use Rattle.reader.proofs.Searches.{lookup_with, from_by}
use Rattle.batch.specs.RoundNames.{names, nth}
use Rattle.image.specs.PackedNames.{begin_of}
use Rattle.batch.specs.Steps.HashedNames.{hash_or_zero, HashedNames}
use Rattle.batch.specs.Steps.Probing.{SearchDecided}

-- a hash is a word
hash_below : (name : List ℕ) → hash_or_zero name < 4294967296
hash_below name =
    elim (dec_lt (length name) 4294967295) [
      | yes l ↦ omega (arith, hash_or_zero_short name l, hash_of_below name)
      | no l ↦ omega (arith, hash_or_zero_long name (omega (arith, l)))
    ]

pub stored_hash_below : {bytes ends hashes : List ℕ} → HashedNames bytes ends hashes → (i : ℕ) → i < length ends → get_or hashes i 0 < 4294967296
stored_hash_below {bytes} {ends} hashed i h =
    omega (arith, hashed.hashed i (omega (arith, length_names bytes ends)), hash_below (nth (names bytes ends) i))

-- a name is no longer than the bytes
pub name_short : (bytes ends : List ℕ) (i : ℕ) → i < length ends → length bytes < 4294967295 → length (nth (names bytes ends) i) < 4294967295
name_short bytes ends i h short =
    let b = begin_of ends i in
    omega (arith, ap length (nth_name bytes ends i h), length-take (get_or ends i 0 - b) (drop b bytes), length-drop b bytes)

module _ {image : List ℕ} {h c e : ℕ} (decided : SearchDecided image h c e) (name : List ℕ) (short : length name < 4294967295) where
  own_lookup : lookup_hash image name h ≡ lookup_by image name h
  own_lookup = lookup_with image name h false false (le-ltb (length image) 2072 decided.head) (lt-leb 4294967295 (length name) short)

  pub empty_decides : e ≡ 0 → nothing c ≡ lookup_by image name h
  empty_decides z = decided.empty z name ∙ own_lookup

  pub entry_decides : 0 < e → (s : Probe) → s ≡ probe_entry image name e → decide s c (search_from image name h c) ≡ lookup_by image name h
  entry_decides some s seen = ap (λ (v : Probe). decide v c (search_from image name h c)) seen ∙ decided.by_entry some name ∙ own_lookup

  -- an entry with another name: what is left of the lookup decides
  pub rest_decides : 0 < e → pass ≡ probe_entry image name e → lookup_from image name h c ≡ lookup_by image name h
  rest_decides some seen =
      sym (from_by image name h c false false (le-ltb (length image) 2072 decided.head) (lt-leb 4294967295 (length name) short))
      ∙ entry_decides some pass seen
