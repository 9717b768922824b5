-- An entry that stands in an image: its words and its name, and where every entry stands. Assumes nothing.
use Rattle.std.proofs.Common.{◌≡◌, ℕ, ◌+◌, ◌^◌, ◌<◌, ◌≤◌, List, [], ◌∷◌, ◌++◌, length, take, drop, ap, arith, length-append}
use Rattle.image.specs.Bytes.{word, le32, cat}
use Rattle.image.specs.Image.{Entry, Placed, head_size, entry_bytes, entry_size, placed, back_size, image}
use Rattle.image.specs.declared.Mode.{Mode}
use Rattle.image.proofs.Words.{length_le32}
use Rattle.image.proofs.Lists.{cat_cons}
use Rattle.image.proofs.Sizes.{length-entry_bytes}
use Rattle.image.proofs.AllOfList.{All}
use Rattle.image.proofs.At.{At, at_same, at_equal, at_left, at_right, at_fits, at_take, at_word, at_second}
use Rattle.image.proofs.Parts.{placed_in, entries_at}

-- ---- one entry

module _ {img : List ℕ} {o : ℕ} (e : Entry) (a : At img o (entry_bytes e)) where
  pub entry_fits : o + (length e.name + 9) ≤ length img
  entry_fits = rw (length-entry_bytes e) at (at_fits a (rw (length-entry_bytes e) (omega arith)))

  words_at : At img o (le32 e.id ++ le32 (length e.name + 1))
  unfolding entry_bytes
  words_at =
      at_left (le32 e.id ++ le32 (length e.name + 1)) e.name
      (at_left (le32 e.id ++ le32 (length e.name + 1) ++ e.name) (0 ∷ []) a)

  pub id_word : e.id < 2 ^ 32 → word img o ≡ e.id
  id_word h = at_word e.id (at_left (le32 e.id) (le32 (length e.name + 1)) words_at) h

  pub length_word : length e.name + 1 < 2 ^ 32 → word img (o + 4) ≡ length e.name + 1
  length_word h = at_word (length e.name + 1) (at_second e.id (length e.name + 1) words_at) h

  name_at : At img (o + 8) e.name
  unfolding entry_bytes
  name_at =
      at_same eight
      (at_right (le32 e.id ++ le32 (length e.name + 1)) e.name
      (at_left (le32 e.id ++ le32 (length e.name + 1) ++ e.name) (0 ∷ []) a))
    where
      eight : o + length (le32 e.id ++ le32 (length e.name + 1)) ≡ o + 8
      eight = simp (length-append, length_le32)

  pub name_bytes : take (length e.name) (drop (o + 8) img) ≡ e.name
  name_bytes = at_take name_at

-- ---- every entry of an image

pub record EntryAt (img : List ℕ) (p : Placed) : Type 0 where
  pub there : At img p.at (entry_bytes p.entry)
  pub after : 0 < p.at

pub placed_at : (img : List ℕ) (o : ℕ) (es : List Entry) → 0 < o → At img o (cat entry_bytes es) → All (EntryAt img) (placed o es)
unfolding placed
placed_at img o [] h a = tt
placed_at img o (e ∷ es) h a =
    let b : At img o (entry_bytes e ++ cat entry_bytes es) = at_equal (cat_cons entry_bytes e es) a in (
      record { there = at_left (entry_bytes e) (cat entry_bytes es) b; after = h },
      placed_at img (o + entry_size e) es (omega arith)
          (at_same (ap (λ (n : ℕ). o + n) (length-entry_bytes e)) (at_right (entry_bytes e) (cat entry_bytes es) b)),
    )

pub all_entries_at : (mode : Mode) (es : List Entry) → All (EntryAt (image mode es)) (placed_in es)
all_entries_at mode es = placed_at (image mode es) head_size es (omega arith) (entries_at mode es)

-- what holds of the entries holds of them where they stand
pub all_placed : (Q : Entry → Type 0) (o : ℕ) (es : List Entry) → All Q es → All (λ (p : Placed). Q p.entry) (placed o es)
unfolding placed
all_placed Q o [] all = tt
all_placed Q o (e ∷ es) all = (all.0, all_placed Q (o + entry_size e) es all.1)

-- every id is below the back size, whatever the mode
pub ids_below : (es : List Entry) (n : ℕ) → back_size es ≤ n → All (λ (e : Entry). e.id < n) es
unfolding back_size
ids_below [] n h = tt
ids_below (e ∷ es) n h = (omega arith, ids_below es n (omega arith))
