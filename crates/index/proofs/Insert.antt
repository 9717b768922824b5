-- The buckets of entries, and slots filled with one entry more. Assumes nothing.
use Prim.Native.Nat.{ℕ, ◌+◌, ◌*◌, ◌/◌, ◌<◌}
use native.Mathlib.Omega.{arith}
use native.Mathlib.Decide.{ℕ_discrete}
use mathlib.Core.Path.{◌≡◌, refl, sym, ap, ◌∙◌}
use mathlib.Core.List.{List, [], ◌∷◌, ◌++◌, map, map-append}
use lib.ListN.{length, get_or, set, length-set, length-map}
use lib.Seq.{get_or-set_same, get_or-set_other}
use Rattle.jhash.specs.NameHash.{hash_of}
use Rattle.image.specs.Tables.{Bucket, empty, filled}
use Rattle.image.specs.Image.{Entry, head_size, entry_size, entries_size, placed, bucket_of}
use Rattle.image.proofs.Sizes.{length_filled, placed_append, length_placed}
use Rattle.image.proofs.AllOfList.{All}
use Rattle.lookup_laws.proofs.SlotSearch.{filled_next}
use Rattle.lookup_laws.proofs.TableContents.{NotEmpty}
use Rattle.index.specs.Index.{slot_count, slot_at, slot_stored, first_empty_slot, FilledWith, entry_buckets}

-- ---- the buckets of entries

pub buckets_snoc : (es : List Entry) (e : Entry)
    → entry_buckets (es ++ (e ∷ [])) ≡ entry_buckets es ++ (record { hash = hash_of e.name; at = head_size + entries_size es } ∷ [])
unfolding placed
buckets_snoc es e =
    ap (map bucket_of) (placed_append head_size es (e ∷ []))
    ∙ map-append bucket_of (placed head_size es) (placed (head_size + entries_size es) (e ∷ []))

pub length_buckets : (es : List Entry) → length (entry_buckets es) ≡ length es
length_buckets es = length-map (placed head_size es) bucket_of ∙ length_placed head_size es

pub buckets_occupied : (es : List Entry) → All NotEmpty (entry_buckets es)
unfolding placed
buckets_occupied es = from head_size es (omega arith)
  where
    from : (o : ℕ) (es : List Entry) → 0 < o → All NotEmpty (map bucket_of (placed o es))
    from o [] h = tt
    from o (e ∷ es) h = ((λ z. omega (arith, h, z)), from (o + entry_size e) es (omega arith))

-- ---- slots

-- equal words make equal slots
pub same_slot : {h h' o o' : ℕ} → h ≡ h' → o ≡ o' → ◌≡◌ {A = Bucket} (record { hash = h; at = o }) (record { hash = h'; at = o' })
same_slot p q = λ i. record { hash = p i; at = q i }

pub length_stored : (words : List ℕ) (k h at : ℕ) → length (slot_stored words k h at) ≡ length words
length_stored words k h at = length-set (set words (2 * k) h) (2 * k + 1) at ∙ length-set words (2 * k) h

-- the other words stay
pub stored_other : (words : List ℕ) (k h at i : ℕ) → (i ≡ 2 * k → ⊥) → (i ≡ 2 * k + 1 → ⊥) → get_or (slot_stored words k h at) i 0 ≡ get_or words i 0
stored_other words k h at i x y = get_or-set_other (set words (2 * k) h) (2 * k + 1) i at 0 y ∙ get_or-set_other words (2 * k) i h 0 x

-- ---- one entry more

module _ (words : List ℕ) {bs : List Bucket} (slots : FilledWith words bs) (b : Bucket) (k : ℕ) (inside : k < slot_count words)
    (first : k ≡ first_empty_slot words b.hash) where
  abbrev count : ℕ
  count = slot_count words

  abbrev stored : List ℕ
  stored = slot_stored words k b.hash b.at

  more : filled count (bs ++ (b ∷ [])) ≡ set (filled count bs) k b
  more = filled_next slots (omega (arith, inside)) b.hash b refl k first

  there : slot_at stored k ≡ b
  there =
      same_slot
      (get_or-set_other (set words (2 * k) b.hash) (2 * k + 1) (2 * k) b.at 0 (λ z. omega arith) ∙ get_or-set_same words (2 * k) b.hash 0 (omega arith))
      (get_or-set_same (set words (2 * k) b.hash) (2 * k + 1) b.at 0 (omega (arith, length-set words (2 * k) b.hash)))

  stored_each : (j : ℕ) → j < count → Dec (j ≡ k) → slot_at stored j ≡ get_or (set (filled count bs) k b) j empty
  stored_each j l (yes e) =
      ap (slot_at stored) e ∙ there ∙ sym (get_or-set_same (filled count bs) k b empty (omega (arith, length_filled count bs)))
      ∙ ap (λ (i : ℕ). get_or (set (filled count bs) k b) i empty) (sym e)
  stored_each j l (no e) =
      same_slot
      (stored_other words k b.hash b.at (2 * j) (λ z. e (omega arith)) (λ z. omega arith))
      (stored_other words k b.hash b.at (2 * j + 1) (λ z. omega arith) (λ z. e (omega arith)))
      ∙ slots.each j l ∙ sym (get_or-set_other (filled count bs) k j b empty e)

  pub filled_stored : FilledWith (slot_stored words k b.hash b.at) (bs ++ (b ∷ []))
  filled_stored =
      let same : slot_count stored ≡ count = ap (λ (n : ℕ). n / 2) (length_stored words k b.hash b.at) in
      record {
        each =
            λ j l. stored_each j (omega (arith, l, same)) (ℕ_discrete j k)
            ∙ ap (λ (t : List Bucket). get_or t j empty) (sym more)
            ∙ ap (λ (n : ℕ). get_or (filled n (bs ++ (b ∷ []))) j empty) (sym same);
      }
