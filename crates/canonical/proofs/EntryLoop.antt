-- The walk over the entries that checks each of them. Assumes nothing.
use Prim.Native.Nat.{ℕ, suc, ◌+◌, ◌*◌, ◌-◌, ◌≤◌, ◌<◌, max}
use native.Mathlib.Omega.{arith}
use mathlib.Core.Path.{◌≡◌, refl, sym, ap, ap₂, ◌∙◌}
use mathlib.Core.Bool.{Bool, true, false, cond, ◌&&◌, and-true, and-false}
use mathlib.Core.List.{List, ◌∷◌}
use lib.ListN.{length, drop, length-take, length-drop}
use lib.Dec.{eqb}
use Rattle.jhash.specs.NameHash.{hash_of}
use Rattle.image.specs.Bytes.{word}
use Rattle.image.specs.Image.{Placed, entry_size, placed}
use Rattle.image.specs.Stored.{first_entry, whole, entries_in, between}
use Rattle.image.specs.Tally.{raised_counts}
use Rattle.image.proofs.Between.{Front, EntryRoom, whole_front, whole_room}
use Rattle.image.specs.Steps.Contracts.{NotWhole, WholeLength}
use Rattle.std.specs.Int.{from_bool}
use borrow.Author.Tests.{eq-eqb, ne_eqb}
use Rattle.canonical.proofs.Sums.{one_at_most}
use Rattle.image.proofs.EntryWalk.{Rest, first_id_lem, first_name_lem, entries_rest, walk_start, walk_step, walk_broken, walk_end}
use Rattle.canonical.specs.Steps.Checks.{entry_name, name_ok, not_before, entries_ok, entries_valid, placed_from}
use Rattle.canonical.specs.Steps.HiddenBuckets.{in_cells, own_back_words}
use Rattle.canonical.specs.Steps.InPlace.{back_word_at}
use Rattle.canonical.specs.Steps.Contracts.{CheckEntriesPre, EntriesWrong, EntriesFound}

-- what the entries from `at` on add to what was found before them is the whole
pub record Entering (img : List ℕ) (end entries : ℕ) (two : Bool) (o : ℕ) (counts₀ : List ℕ) (at left back lasts : ℕ) (counts : List ℕ) : Type 0 where
  pub rest : Rest img end entries counts₀ at left back counts
  pub valid_same : entries_ok img two o (placed_from img end left at) ≡ entries_ok img two o (placed_from img end entries 2072)
  pub lasts_same : lasts + own_back_words (back_word_at img o) (placed_from img end left at)
      ≡ own_back_words (back_word_at img o) (placed_from img end entries 2072)
  pub few : lasts + left ≤ entries

pub entering_start : {img : List ℕ} {end entries : ℕ} {two : Bool} {o : ℕ} {counts₀ : List ℕ} → CheckEntriesPre img end o counts₀
    → Entering img end entries two o counts₀ 2072 entries 0 0 counts₀
entering_start {img} {end} {entries} {two} {o} {counts₀} p = record {
  rest = walk_start img end entries counts₀ p.area.from p.zeros;
  valid_same = refl;
  lasts_same = omega arith;
  few = omega arith;
}

-- a test as a number
one_cond : (t : Bool) → from_bool t ≡ cond t 1 0
one_cond true = refl
one_cond false = refl

-- what a turn of the loop reads of the entry at `at`, and what the two checks of it answer
pub record EntryRead (img : List ℕ) (end : ℕ) (two : Bool) (o at n h id w : ℕ) (ahead named : Bool) : Type 0 where
  pub whole : WholeLength img at end n
  pub hash_is : h ≡ hash_of (entry_name img at n)
  pub id_is : id ≡ word img at
  pub back_word_is : w ≡ word img (o + 4 * id)
  pub ahead_is : ahead ≡ not_before two at w
  pub named_is : named ≡ name_ok img at (entry_name img at n)

module _ {img : List ℕ} {end entries : ℕ} {two : Bool} {o : ℕ} {counts₀ : List ℕ} {at left back lasts : ℕ} {counts : List ℕ}
    (e : Entering img end entries two o counts₀ at left back lasts counts) (k : end ≤ length img) (some : 0 < left) where
  pub entering_broken : NotWhole img at end → EntriesWrong img end entries two o
  entering_broken z =
      sym
      (ap (λ (b : Bool). b && entries_ok img two o (placed_from img end entries 2072))
      (walk_broken img end entries counts₀ at left back counts e.rest some (sym z)))

  pub entering_inside : {n : ℕ} → WholeLength img at end n → EntryRoom img at end n
  entering_inside w = whole_room (record { from = e.rest.inside; inside = k }) w

  module _ {n h id w : ℕ} {p q : Bool} (r : EntryRead img end two o at n h id w p q) where
    there : Front (between img at end) n
    there = whole_front (record { from = e.rest.inside; inside = k }) r.whole

    name_is : (first_entry (between img at end)).name ≡ entry_name img at n
    name_is = first_name_lem img at end n (left - 1) e.rest.inside k there

    size_is : entry_size (first_entry (between img at end)) ≡ 8 + n
    size_is =
        let room = (entering_inside r.whole).name in
        omega (arith, ap length name_is, length-take (n - 1) (drop (at + 8) img), length-drop (at + 8) img, room.inside, room.some)

    later : List Placed
    later = placed_from img end (left - 1) (at + (8 + n))

    step : placed_from img end left at ≡ record { entry = first_entry (between img at end); at = at } ∷ later
    unfolding placed later
    step =
        let s : left ≡ suc (left - 1) = omega arith in
        let rest = entries_in (left - 1) (between img (at + (8 + n)) end) in
        ap (λ (m : ℕ). placed at (entries_in m (between img at end))) s
        ∙ ap (placed at) (entries_rest img at end n (left - 1) e.rest.inside k there)
        ∙ ap (λ (j : ℕ). record { entry = first_entry (between img at end); at = at } ∷ placed (at + j) rest) size_is

    back_word_is : word img (o + 4 * (first_entry (between img at end)).id) ≡ w
    back_word_is =
        ap (λ (i : ℕ). word img (o + 4 * i)) (first_id_lem img at end n (left - 1) e.rest.inside k there ∙ sym r.id_is)
        ∙ sym r.back_word_is

    entries_step : entries_ok img two o (placed_from img end left at) ≡ (p && q && entries_ok img two o later)
    unfolding entries_ok
    entries_step =
        ap (entries_ok img two o) step
        ∙ ap₂ (λ (v : ℕ) (name : List ℕ). not_before two at v && name_ok img at name && entries_ok img two o later) back_word_is name_is
        ∙ ap₂ (λ (x y : Bool). x && y && entries_ok img two o later) (sym r.ahead_is) (sym r.named_is)

    pub entering_wrong : (p && q) ≡ false → EntriesWrong img end entries two o
    entering_wrong z =
        let wholes = whole entries (between img 2072 end) in
        ap (λ (b : Bool). wholes && b) (sym e.valid_same ∙ entries_step ∙ ap (λ (b : Bool). b && entries_ok img two o later) z)
        ∙ and-false wholes

    pub entering_next : (p && q) ≡ true → (b : ℕ) (counts₁ : List ℕ) → id < 4294967296 → b ≡ from_bool (eqb w at) → counts₁ ≡ raised_counts counts h
        → Entering img end entries two o counts₀ (at + (8 + n)) (left - 1) (max back (id + 1)) (lasts + b) counts₁
    unfolding later in_cells
    entering_next y b counts₁ idsmall one ec = record {
      rest =
          walk_step img end entries counts₀ at left back counts k e.rest some n h id (entry_name img at n) counts₁ there r.whole.small idsmall refl r.hash_is
          r.id_is ec;
      valid_same = sym (entries_step ∙ ap (λ (b : Bool). b && entries_ok img two o later) y) ∙ e.valid_same;
      lasts_same =
          let t : own_back_words (back_word_at img o) (placed_from img end left at) ≡ cond (eqb w at) 1 0 + own_back_words (back_word_at img o) later =
          ap (own_back_words (back_word_at img o)) step ∙ ap (λ (v : ℕ). cond (eqb v at) 1 0 + own_back_words (back_word_at img o) later) back_word_is in
          omega (arith, one ∙ one_cond (eqb w at), e.lasts_same);
      few = omega (arith, one ∙ one_cond (eqb w at), one_at_most (eqb w at), e.few);
    }

module _ {img : List ℕ} {end entries : ℕ} {two : Bool} {o : ℕ} {counts₀ : List ℕ} {at back lasts : ℕ} {counts : List ℕ}
    (e : Entering img end entries two o counts₀ at 0 back lasts counts) (k : end ≤ length img) where
  whole_at_end : eqb at end ≡ entries_valid img end entries two o
  unfolding entries_ok placed entries_in
  whole_at_end =
      let w = walk_end img end entries counts₀ at back counts k e.rest in
      let all : true ≡ entries_ok img two o (placed_from img end entries 2072) = e.valid_same in
      w.0 ∙ sym (and-true (whole entries (between img 2072 end))) ∙ ap (λ (b : Bool). whole entries (between img 2072 end) && b) all

  -- the entries end elsewhere
  pub entering_past : (at ≡ end → ⊥) → EntriesWrong img end entries two o
  entering_past n = sym whole_at_end ∙ ne_eqb at end n

  pub entering_end : at ≡ end → EntriesFound img end entries two o counts₀ counts (record { back = back; lasts = lasts })
  unfolding in_cells placed entries_in
  entering_end z =
      let w = walk_end img end entries counts₀ at back counts k e.rest in
      let back_word_of : lasts + 0 ≡ own_back_words (back_word_at img o) (placed_from img end entries 2072) = e.lasts_same in
      record { valid = sym whole_at_end ∙ eq-eqb at end z; back = w.1; lasts = omega arith; by_table = w.2 }
