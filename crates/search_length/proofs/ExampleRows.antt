-- The worked examples hold: what is computed of them are the lookups. Assumes nothing.
use Prim.Native.Nat.{ℕ, zero, suc, ◌+◌, ◌*◌, ◌/◌, ◌%◌, ◌≤◌, ◌<◌}
use native.Mathlib.Omega.{arith}
use mathlib.Core.Path.{◌≡◌, refl, sym, ap, ap₂, ◌∙◌}
use mathlib.Core.Bool.{Bool, true, false, cond}
use mathlib.Core.List.{List, [], ◌∷◌, ◌++◌, map}
use lib.ListN.{length}
use lib.Dec.{eqb, lit≤, lit<}
use Rattle.jhash.specs.NameHash.{hash_of}
use Rattle.jhash.specs.Outcome.{Outcome, value}
use Rattle.jhash.proofs.Vectors.{hash_A, hash_I, hash_Q}
use Rattle.image.specs.Bytes.{word, le32, cat, filter, range, same}
use Rattle.image.specs.Image.{Entry, Placed, head_size, entry_size, entries_end, back_size_of, bucket_of, image_size, entry_bytes, entries_size, placed}
use Rattle.image.specs.Image.{of_table}
use Rattle.image.specs.Image.{bucket_bytes, table, table_bytes, entries_before, table_offset, table_row, back_size, placed_of_id, last_from, back_word}
use Rattle.image.specs.Image.{back_offset}
use Rattle.image.specs.Image.{head_bytes, head_words, table_rows, tables, back_words, image}
use Rattle.image.specs.Tables.{Bucket, table_of, probe_sequence, first_empty, insert, insert_all, filled}
use Rattle.image.specs.Stored.{entries_in}
use Rattle.image.specs.Zero.{has_zero}
use Rattle.image.specs.declared.Mode.{Mode}
use Rattle.image.specs.declared.Mode.TheVariants.{Twoway, Oneway}
use Rattle.image.proofs.AllOfList.{All}
use Rattle.reader.specs.Lookup.{Lookup, probe_entry, probe_bucket, search_along, search_table, lookup_hash, lookup_by}
use Rattle.reader.specs.Cases.{reads}
use Rattle.reader.proofs.Searches.{lookup_own}
use Rattle.reader.specs.Open.{opening}
use Rattle.canonical.specs.Steps.Made.{Storable, Made}
use Rattle.canonical.specs.Canonical.{puts_in, no_zero_bytes, canonical}
use Rattle.canonical.proofs.ReadBack.{made_puts, canonical_yes}
use Rattle.search_length.specs.SearchLengths.{total_of}
use Rattle.search_length.specs.Average.{entry_count, total, averaging}
use Rattle.search_length.specs.Examples.Rows.{Averages, letter, average_rows}
use Rattle.search_length.specs.declared.AverageLength.{AverageLength}
use Rattle.search_length.proofs.Theorem.{average_search}

-- an image of puts is canonical, and has these entries
module _ (mode : Mode) (es : List Entry) (each : All Storable es) (fits : image_size mode es ≤ 4294967295) where
  made : Made (image mode es)
  made = record { mode = mode; puts = es; each = each; fits = fits; is = refl }

  entries_are : puts_in (image mode es) ≡ es
  unfolding made
  entries_are = made_puts (image mode es) made

  -- so its average follows from the lookups alone
  averaged : (n s : ℕ) → length es ≡ n → 0 < n → total_of (image mode es) es ≡ s
      → averaging (image mode es) ≡ value (record { entries = n; quotient = s / n; remainder = s % n })
  unfolding averaging total
  averaged n s long some sum =
      let number : entry_count (image mode es) ≡ n = ap length entries_are ∙ long in
      let all : total (image mode es) ≡ s = ap (total_of (image mode es)) entries_are ∙ sum in
      let none = average_search.accepted (image mode es) (canonical_yes (image mode es) made) (omega (arith, number)) in
      rw none (ap₂ average_from all number)
    where
      average_from : ℕ → ℕ → Outcome AverageLength
      average_from s k = value (record { entries = k; quotient = s / k; remainder = s % k })

storable : (c id : ℕ) → has_zero (c ∷ []) ≡ false → id < 4294967296 → Storable (letter c id)
storable c id f h = record { free = f; id_word = h }

-- an image of two puts, by the hashes of their names: the rows and tables of the image are computed from the two numbers alone
module _ (mode : Mode) (e₁ e₂ : Entry) (h₁ h₂ : ℕ) (is₁ : hash_of e₁.name ≡ h₁) (is₂ : hash_of e₂.name ≡ h₂) where
  abbrev es : List Entry
  es = e₁ ∷ e₂ ∷ []

  abbrev p₁ : Placed
  p₁ = record { entry = e₁; at = head_size }

  abbrev p₂ : Placed
  p₂ = record { entry = e₂; at = head_size + entry_size e₁ }

  -- the entries of table t, where the names have the hashes a and b, and their buckets
  abbrev kept : ℕ → ℕ → ℕ → List Placed
  kept a b t = cond (eqb (table_of a) t) (p₁ ∷ cond (eqb (table_of b) t) (p₂ ∷ []) []) (cond (eqb (table_of b) t) (p₂ ∷ []) [])

  abbrev buckets : ℕ → ℕ → ℕ → List Bucket
  buckets a b t =
      cond (eqb (table_of a) t) (record { hash = a; at = p₁.at } ∷ cond (eqb (table_of b) t) (record { hash = b; at = p₂.at } ∷ []) [])
      (cond (eqb (table_of b) t) (record { hash = b; at = p₂.at } ∷ []) [])

  entries_of : (t : ℕ) → of_table t (p₁ ∷ p₂ ∷ []) ≡ kept h₁ h₂ t
  unfolding of_table
  entries_of t = ap₂ (λ (a b : ℕ). kept a b t) is₁ is₂

  mapped : (x y : Bool) → map bucket_of (cond x (p₁ ∷ cond y (p₂ ∷ []) []) (cond y (p₂ ∷ []) []))
      ≡ cond x (bucket_of p₁ ∷ cond y (bucket_of p₂ ∷ []) []) (cond y (bucket_of p₂ ∷ []) [])
  mapped true true = refl
  mapped true false = refl
  mapped false true = refl
  mapped false false = refl

  buckets_of : (t : ℕ) → map bucket_of (of_table t (p₁ ∷ p₂ ∷ [])) ≡ buckets h₁ h₂ t
  unfolding of_table
  buckets_of t =
      mapped (eqb (table_of (hash_of e₁.name)) t) (eqb (table_of (hash_of e₂.name)) t) ∙ ap₂ (λ (a b : ℕ). buckets a b t) is₁ is₂

  before : ℕ → ℕ
  before zero = 0
  before (suc t) = before t + length (kept h₁ h₂ t)

  before_is : (t : ℕ) → entries_before t (p₁ ∷ p₂ ∷ []) ≡ before t
  unfolding entries_before before
  before_is zero = refl
  before_is (suc t) = ap₂ (λ (n : ℕ) (l : List Placed). n + length l) (before_is t) (entries_of t)

  bytes : List ℕ
  bytes =
      head_words mode es
      ++ cat (λ (t : ℕ). le32 (cond (eqb (length (kept h₁ h₂ t)) 0) 0 (entries_end es + 16 * before t)) ++ le32 (2 * length (kept h₁ h₂ t))) (range 0 256)
      ++ cat entry_bytes es
      ++ cat (λ (t : ℕ). cat bucket_bytes (filled (2 * length (kept h₁ h₂ t)) (buckets h₁ h₂ t))) (range 0 256)
      ++ back_words (p₁ ∷ p₂ ∷ []) (back_size_of mode es)

  bytes_are : image mode es ≡ bytes
  unfolding image placed table_rows table_row table_offset tables table_bytes table bytes
  bytes_are =
      λ i.
      head_words mode es
      ++ cat (λ (t : ℕ). le32 (cond (eqb (length (entries_of t i)) 0) 0 (entries_end es + 16 * before_is t i)) ++ le32 (2 * length (entries_of t i)))
      (range 0 256)
      ++ cat entry_bytes es
      ++ cat (λ (t : ℕ). cat bucket_bytes (filled (2 * length (entries_of t i)) (buckets_of t i))) (range 0 256)
      ++ back_words (p₁ ∷ p₂ ∷ []) (back_size_of mode es)

  total_of_lem : total_of (image mode es) es ≡ reads (lookup_by bytes e₁.name h₁) + (reads (lookup_by bytes e₂.name h₂) + 0)
  unfolding total_of
  total_of_lem =
      ap (λ (l : List ℕ). total_of l es) bytes_are
      ∙ ap₂ (λ (x y : Lookup). reads x + (reads y + 0)) (sym (lookup_own bytes e₁.name h₁ (λ s. sym is₁)))
      (sym (lookup_own bytes e₂.name h₂ (λ s. sym is₂)))

crowded : total_of (image Twoway (letter 73 0 ∷ letter 81 1 ∷ [])) (letter 73 0 ∷ letter 81 1 ∷ []) ≡ 3
unfolding word le32 cat range same entry_bytes entries_size bucket_bytes back_size placed_of_id last_from back_word back_offset head_bytes
    head_words back_words
    probe_sequence first_empty insert insert_all filled probe_entry probe_bucket search_along search_table lookup_hash lookup_by before bytes
crowded = total_of_lem Twoway (letter 73 0) (letter 81 1) 0xcae4bcb3 0x27d3a0b3 hash_I hash_Q

repeated : total_of (image Oneway (letter 65 5 ∷ letter 65 9 ∷ [])) (letter 65 5 ∷ letter 65 9 ∷ []) ≡ 2
unfolding word le32 cat range same entry_bytes entries_size bucket_bytes back_size placed_of_id last_from back_word back_offset head_bytes
    head_words back_words
    probe_sequence first_empty insert insert_all filled probe_entry probe_bucket search_along search_table lookup_hash lookup_by before bytes
repeated = total_of_lem Oneway (letter 65 5) (letter 65 9) 0x89284101 0x89284101 hash_A hash_A

-- no bytes are no image
nothing : canonical [] ≡ false
unfolding word le32 cat filter range same entry_bytes entries_size placed of_table bucket_bytes table table_bytes entries_before table_offset
    table_row back_size
    placed_of_id last_from back_word back_offset head_bytes head_words table_rows tables back_words image probe_sequence first_empty insert insert_all filled
    entries_in has_zero opening puts_in no_zero_bytes canonical
nothing = refl

pub rows_hold : All Averages average_rows
unfolding entries_size back_size has_zero
rows_hold = (
  averaged Twoway (letter 73 0 ∷ letter 81 1 ∷ []) (storable 73 0 refl (lit< tt), (storable 81 1 refl (lit< tt), tt)) (lit≤ tt) 2 3 refl (lit< tt) crowded,
  (
    averaged Oneway (letter 65 5 ∷ letter 65 9 ∷ []) (storable 65 5 refl (lit< tt), (storable 65 9 refl (lit< tt), tt)) (lit≤ tt) 2 2 refl (lit< tt) repeated,
    (
      average_search.no_entries (image Twoway []) (canonical_yes (image Twoway []) (made Twoway [] tt (lit≤ tt)))
          (ap length (entries_are Twoway [] tt (lit≤ tt))),
      (average_search.not_canonical [] nothing, tt),
    ),
  ),
)
