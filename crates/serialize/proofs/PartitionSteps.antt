-- The steps of inserting by tables: where the tables begin, the entries partitioned one after the other, and the
-- tables filled one after the other. Assumes nothing.
use Rattle.std.proofs.Common.{◌≡◌, ℕ, suc, ◌+◌, ◌-◌, ◌*◌, ◌%◌, ◌<◌, ◌≤◌, Bool, cond, eqb, leb, List, ◌++◌, length, get_or, take, set, sym, refl, ap, ◌∙◌}
use Rattle.std.proofs.Common.{subst, ap₂, arith, eq-eqb, ne_eqb, le-leb}
use lib.Seq.{sets}
use borrow.Author.Tests.{lt-leb}
use Rattle.image.specs.Bytes.{word, le32, cat}
use Rattle.image.specs.Tables.{filled}
use Rattle.image.specs.Image.{bucket_bytes}
use Rattle.image.proofs.Between.{take_sets}
use Rattle.image.specs.declared.Mode.{Mode}
use Rattle.image.specs.Stored.{between}
use Rattle.image.specs.Steps.EntryLength.{whole_length}
use Rattle.serialize.specs.Steps.Insertion.{entry_hash, back_stored}
use Rattle.serialize.specs.Steps.Partition.{table_offsets_from, pair_put, advanced, PairAppended, partitioned, EntryPartitioned, partitioned_from}
use Rattle.serialize.specs.Steps.Partition.{pairs_stored, table_filled, tables_from}
use Rattle.serialize.specs.Steps.Meeting.{Apart, TablesApart}
use Rattle.serialize.proofs.Choices.{cond_holds}

-- ---- a pair

pub pair_put_lem : (buf : List ℕ) (p h at : ℕ) {buf' : List ℕ} → p + 8 ≤ length buf → buf' ≡ sets buf p (le32 h ++ le32 at) → buf' ≡ pair_put buf p h at
pair_put_lem buf p h at l e = rw (le-leb (p + 8) (length buf) l) e

pub pair_left : (buf : List ℕ) (p h at : ℕ) → length buf < p + 8 → buf ≡ pair_put buf p h at
pair_left buf p h at l = rw (lt-leb (p + 8) (length buf) l)

pub pair_appended : (places buf : List ℕ) (h at q : ℕ) {buf' : List ℕ} → buf' ≡ pair_put buf (get_or places (h % 256) 0) h at
    → q ≡ (get_or places (h % 256) 0 + 8) % 4294967296 → PairAppended places buf h at (set places (h % 256) q) buf'
unfolding advanced
pair_appended places buf h at q e f = record { stored = e; moved = ap (set places (h % 256)) f }

-- ---- where the tables begin

pub table_offsets_step : (counts p x : List ℕ) (o t n r c : ℕ) → t < n → r ≡ o % 4294967296 → c ≡ get_or counts t 0
    → sets p t (table_offsets_from counts o t (n - t)) ≡ x
    → sets (set p t r) (t + 1) (table_offsets_from counts (o + 16 * c) (t + 1) (n - (t + 1))) ≡ x
unfolding table_offsets_from
table_offsets_step counts p x o t n r c h er ec inv =
    let m : n - t ≡ suc (n - (t + 1)) = omega arith in
    let st : t + 1 ≡ suc t = omega arith in
    ap (λ (k : ℕ). sets (set p t r) k (table_offsets_from counts (o + 16 * c) k (n - (t + 1)))) st
    ∙ ap₂ (λ (v : ℕ) (k : ℕ). sets (set p t v) (suc t) (table_offsets_from counts (o + 16 * k) (suc t) (n - (t + 1)))) er ec
    ∙ sym (ap (λ (k : ℕ). sets p t (table_offsets_from counts o t k)) m)
    ∙ inv

pub table_offsets_end : (counts p x : List ℕ) (o t i : ℕ) → sets p i (table_offsets_from counts o t 0) ≡ x → p ≡ x
unfolding table_offsets_from
table_offsets_end counts p x o t i e = e

-- ---- entries

pub entry_partitioned : (mode : Mode) (back_start at id h : ℕ) (places buf : List ℕ) {places' b1 b2 : List ℕ} → PairAppended places buf h at places' b1
    → b2 ≡ back_stored mode b1 back_start id at → EntryPartitioned mode back_start at id h places buf places' b2
unfolding partitioned
entry_partitioned mode back_start at id h places buf p q =
    record { stored = q ∙ ap (λ (l : List ℕ). back_stored mode l back_start id at) p.stored; moved = p.moved }

-- the entries from the one at `at` on, partitioned in this buffer, leave what all entries leave
pub record Partitioning (mode : Mode) (back_start end entries : ℕ) (places₀ buf₀ places buf : List ℕ) (at left : ℕ) : Type 0 where
  pub inside : at ≤ end
  pub long : length buf ≡ length buf₀
  pub leaves : partitioned_from mode back_start end left at places buf ≡ partitioned_from mode back_start end entries 2072 places₀ buf₀

module _ {mode : Mode} {back_start end entries : ℕ} {places₀ buf₀ places buf : List ℕ} {at left : ℕ}
    (inv : Partitioning mode back_start end entries places₀ buf₀ places buf at left) where
  abbrev from : ℕ → List ℕ
  from n =
      let h = entry_hash buf at n in
      partitioned_from mode back_start end (left - 1) (at + (8 + n)) (advanced places h) (partitioned mode back_start places buf at (word buf at) h)

  module _ {n : ℕ} (more : 0 < left) (is : n ≡ whole_length (between buf at end)) where
    next : cond (eqb n 0) buf (from n) ≡ partitioned_from mode back_start end entries 2072 places₀ buf₀
    unfolding partitioned_from
    next =
        let m : suc (left - 1) ≡ left = omega arith in
        ap (λ (k : ℕ). cond (eqb k 0) buf (from k)) is ∙ ap (λ (k : ℕ). partitioned_from mode back_start end k at places buf) m ∙ inv.leaves

    pub partitioned_broken : n ≡ 0 → buf ≡ partitioned_from mode back_start end entries 2072 places₀ buf₀
    partitioned_broken z = sym (ap (λ (b : Bool). cond b buf (from n)) (eq-eqb n 0 z)) ∙ next

    pub partitioned_step : (n ≡ 0 → ⊥) → at + (8 + n) ≤ end → (places' buf' : List ℕ) → length buf' ≡ length buf → {id h : ℕ} → id ≡ word buf at
        → h ≡ entry_hash buf at n → EntryPartitioned mode back_start at id h places buf places' buf'
        → Partitioning mode back_start end entries places₀ buf₀ places' buf' (at + (8 + n)) (left - 1)
    partitioned_step some before places' buf' same {id} {h} ei eh done = record {
      inside = before;
      long = same ∙ inv.long;
      leaves =
          ap₂ (λ (q l : List ℕ). partitioned_from mode back_start end (left - 1) (at + (8 + n)) q l) done.moved done.stored
          ∙ ap₂ (λ (i k : ℕ). partitioned_from mode back_start end (left - 1) (at + (8 + n)) (advanced places k)
          (partitioned mode back_start places buf at i k))
          ei eh
          ∙ sym (ap (λ (b : Bool). cond b buf (from n)) (ne_eqb n 0 some))
          ∙ next;
    }

  pub partitioned_all : left ≡ 0 → buf ≡ partitioned_from mode back_start end entries 2072 places₀ buf₀
  unfolding partitioned_from
  partitioned_all z = ap (λ (k : ℕ). partitioned_from mode back_start end k at places buf) (sym z) ∙ inv.leaves

-- ---- tables

pub tables_step : (counts buf x : List ℕ) (o t n c : ℕ) {buf' : List ℕ} → t < n → c ≡ get_or counts t 0 → buf' ≡ table_filled buf o c
    → tables_from counts o t (n - t) buf ≡ x → tables_from counts (o + 16 * c) (t + 1) (n - (t + 1)) buf' ≡ x
unfolding tables_from
tables_step counts buf x o t n c h ec e inv =
    let m : n - t ≡ suc (n - (t + 1)) = omega arith in
    let st : t + 1 ≡ suc t = omega arith in
    ap₂ (λ (k : ℕ) (l : List ℕ). tables_from counts (o + 16 * c) k (n - (t + 1)) l) st e
    ∙ ap (λ (k : ℕ). tables_from counts (o + 16 * k) (suc t) (n - (t + 1)) (table_filled buf o k)) ec
    ∙ sym (ap (λ (k : ℕ). tables_from counts o t k buf) m)
    ∙ inv

-- no byte before the table changes
pub front_kept : (buf : List ℕ) (end o c : ℕ) → end ≤ o → take end (table_filled buf o c) ≡ take end buf
unfolding table_filled
front_kept buf end o c behind =
    cond_holds (λ (l : List ℕ). take end l ≡ take end buf) (leb (o + 16 * c) (length buf))
    (take_sets (cat bucket_bytes (filled (2 * c) (pairs_stored buf o c))) buf end o behind) refl

-- one table more is apart
pub apart_next : (front counts buf : List ℕ) (o t n c : ℕ) {buf' : List ℕ} {X : Type 0} → t < n → c ≡ get_or counts t 0 → buf' ≡ table_filled buf o c
    → (TablesApart front counts o t (n - t) buf → X) → Apart front (pairs_stored buf o c)
    → TablesApart front counts (o + 16 * c) (t + 1) (n - (t + 1)) buf' → X
apart_next front counts buf o t n c {buf'} {X} h ec e inv one rest =
    let m : suc (n - (t + 1)) ≡ n - t = omega arith in
    let st : t + 1 ≡ suc t = omega arith in
    let Both : ℕ → Type 0 = λ k. Apart front (pairs_stored buf o k) × TablesApart front counts (o + 16 * k) (suc t) (n - (t + 1)) (table_filled buf o k) in
    let Rest : ℕ → Type 0 = λ k. TablesApart front counts (o + 16 * c) k (n - (t + 1)) (table_filled buf o c) in
    inv (subst (λ (k : ℕ). TablesApart front counts o t k buf) m (subst Both ec (one, subst (λ (k : ℕ). Rest k) st (rw e at rest))))

pub tables_end : (counts buf x : List ℕ) (o t : ℕ) → tables_from counts o t 0 buf ≡ x → buf ≡ x
unfolding tables_from
tables_end counts buf x o t p = p
