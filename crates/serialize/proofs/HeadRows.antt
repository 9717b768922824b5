-- The rows that counts give are those of an image whose entries have these counts. Assumes nothing.
use Rattle.std.proofs.Common.{◌≡◌, ℕ, zero, suc, ◌+◌, ◌*◌, ◌<◌, true, cond, eqb, List, ◌++◌, get_or, refl, ap, ◌∙◌, subst, arith, eqb-true}
use Rattle.image.specs.Bytes.{le32, cat, range}
use Rattle.image.specs.Image.{Entry, Placed, head_size, placed, count, entries_before, table_offset, table_row, table_rows}
use Rattle.image.proofs.AllOfRange.{all_each}
use Rattle.image.proofs.Sizes.{before_suc}
use Rattle.serialize.specs.Record.{counts_agree}
use Rattle.serialize.specs.Steps.Written.{rows_from}

-- the counts of entries, table by table
abbrev pub Counts : List ℕ → List Placed → Type 0
Counts counts ps = (t : ℕ) → t < 256 → get_or counts t 0 ≡ count t ps

pub counts_agree_lem : (counts : List ℕ) (es : List Entry) → counts_agree counts es ≡ true → Counts counts (placed head_size es)
counts_agree_lem counts es h t k =
    let z : 0 + t ≡ t = omega arith in
    rw z at
    (eqb-true (get_or counts (0 + t) 0) (count (0 + t) (placed head_size es))
    (all_each (λ (i : ℕ). eqb (get_or counts i 0) (count i (placed head_size es))) 0 256 t h k))

module _ (counts : List ℕ) (end : ℕ) (ps : List Placed) where
  rows_from_lem : (m t o : ℕ) → o ≡ end + 16 * entries_before t ps → ((i : ℕ) → i < m → get_or counts (t + i) 0 ≡ count (t + i) ps)
      → rows_from counts o t m ≡ cat (table_row end ps) (range t m)
  unfolding rows_from range cat table_row table_offset
  rows_from_lem zero t o e h = refl
  rows_from_lem (suc m) t o e h =
      let z : t + 0 ≡ t = omega arith in
      let c : get_or counts t 0 ≡ count t ps = rw z at (h 0 (omega arith)) in
      let more : o + 16 * count t ps ≡ end + 16 * entries_before (suc t) ps = omega (arith, before_suc t ps) in
      ap (λ (n : ℕ). le32 (cond (eqb n 0) 0 o) ++ le32 (2 * n) ++ rows_from counts (o + 16 * n) (suc t) m) c
      ∙ ap (λ (k : ℕ). le32 (cond (eqb (count t ps) 0) 0 k) ++ le32 (2 * count t ps) ++ rows_from counts (o + 16 * count t ps) (suc t) m) e
      ∙ ap (λ (l : List ℕ). table_row end ps t ++ l) (rows_from_lem m (suc t) (o + 16 * count t ps) more (λ i k.
      let z : t + suc i ≡ suc t + i = omega arith in rw z at (h (suc i) (omega arith))))

  none_before : end ≡ end + 16 * entries_before 0 ps
  unfolding entries_before
  none_before = omega arith

  pub rows_image : Counts counts ps → rows_from counts end 0 256 ≡ table_rows end ps
  unfolding table_rows
  rows_image h = rows_from_lem 256 0 end none_before (λ i k. let z : i ≡ 0 + i = omega arith in subst (λ (j : ℕ). get_or counts j 0 ≡ count j ps) z (h i k))
