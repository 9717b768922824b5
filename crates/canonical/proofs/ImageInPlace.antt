-- The words and entries of an image are those of its entries. Assumes nothing.
use mathlib.Core.Path.{sym, ◌∙◌}
use mathlib.Core.List.{List, [], ◌∷◌, map}
use Prim.Native.Nat.{ℕ, ◌+◌, ◌*◌, ◌^◌, ◌≤◌, ◌<◌}
use native.Mathlib.Omega.{arith}
use lib.ListN.{length, get_or}
use Rattle.jhash.proofs.Outcomes.{hash_of_below}
use Rattle.image.specs.Bytes.{le32}
use Rattle.image.specs.Image.{Entry, Placed, head_size, placed, in_table, of_table, count, bucket_of, bucket_bytes, table, entries_before, has_id}
use Rattle.image.specs.Image.{placed_of_id}
use Rattle.image.specs.Image.{last_from, back_word, entries_end, image_size, image}
use Rattle.image.specs.Tables.{Bucket, empty, Filled}
use Rattle.image.proofs.At.{at_left, at_word, at_second}
use Rattle.image.proofs.Buckets.{filled_all}
use Rattle.image.proofs.EntryAt.{EntryAt, entry_fits, all_entries_at}
use Rattle.image.proofs.AllOfList.{All, all_filter, all_image}
use Rattle.image.proofs.Parts.{table_at_image, bucket_number_image, bucket_at_lem, back_word_at, entries_at}
use Rattle.image.proofs.Sizes.{length_image}
use Rattle.lookup_laws.proofs.ImageOpening.{letters_image, magic_image, size_image, back_size_at_image, back_offset_at_image}
use Rattle.canonical.proofs.ReadBack.{flag_image}
use Rattle.image.specs.declared.Mode.{Mode}
use Rattle.canonical.specs.Steps.InPlace.{bucket_at}
use Rattle.canonical.proofs.InPlace.{InPlace}

-- every back word is a word
last_below : (img : List ℕ) → length img ≤ 4294967295 → (o : ℕ) (ps : List Placed) → o < 2 ^ 32 → All (EntryAt img) ps → last_from o ps < 2 ^ 32
unfolding last_from
last_below img small o [] h a = h
last_below img small o (p ∷ ps) h a = last_below img small p.at ps (omega (arith, entry_fits p.entry a.0.there)) a.1

module _ (mode : Mode) (es : List Entry) (fits : image_size mode es ≤ 4294967295) where
  ps : List Placed
  ps = placed head_size es

  back_word_below : (i : ℕ) → back_word (placed head_size es) i < 2 ^ 32
  unfolding back_word placed_of_id
  back_word_below i =
      last_below (image mode es) (omega (arith, length_image mode es)) 0 (placed_of_id i (placed head_size es)) (omega arith)
      (all_filter (EntryAt (image mode es)) (λ (p : Placed). has_id i p.entry) (placed head_size es) (all_entries_at mode es))

  abbrev Words : Bucket → Type 0
  Words b = (b.hash < 2 ^ 32) × (b.at < 2 ^ 32)

  -- every entry's offset is a word
  bucket_words : (t k : ℕ) → Words (get_or (table t ps) k empty)
  unfolding table of_table ps
  bucket_words t =
      filled_all Words (2 * count t ps) (map bucket_of (of_table t ps)) (omega arith)
      (all_image Words bucket_of (λ p s. (hash_of_below p.entry.name, omega (arith, length_image mode es, entry_fits p.entry s.there)))
      (of_table t ps) (all_filter (EntryAt (image mode es)) (in_table t) (placed head_size es) (all_entries_at mode es)))

  table_filled_lem : (t : ℕ) → t < 256 → Filled (2 * count t ps) (bucket_at (image mode es) (entries_end es + 16 * entries_before t ps))
      (map bucket_of (of_table t ps))
  unfolding table ps bucket_bytes
  table_filled_lem t h = record {
    each = λ k m.
        let b = get_or (table t ps) k empty in
        let a = bucket_at_lem mode es fits t k h m in
        let w = bucket_words t k in
        let hash_is = at_word b.hash (at_left (le32 b.hash) (le32 b.at) a) w.0 in
        let at-is = at_word b.at (at_second b.hash b.at a) w.1 in
        λ i. record { hash = hash_is i; at = at-is i };
  }

  pub image_in_place : InPlace (image mode es) mode es
  unfolding ps
  image_in_place = record {
    letters = letters_image mode es;
    size = size_image mode es fits ∙ sym (length_image mode es);
    flag = flag_image mode es;
    order = magic_image mode es;
    back_size_lem = back_size_at_image mode es fits;
    back_start = back_offset_at_image mode es fits;
    total = length_image mode es;
    rows = λ t h. (table_at_image mode es fits t h, bucket_number_image mode es fits t h);
    entries = entries_at mode es;
    tables = table_filled_lem;
    back_word_of = λ i h. sym (at_word (back_word (placed head_size es) i) (back_word_at mode es fits i h) (back_word_below i));
  }
