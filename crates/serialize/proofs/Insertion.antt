-- A pair inserted into its table, an entry into its table and the back array, and entries one after the other.
-- Assumes nothing.
use Rattle.std.proofs.Common.{◌≡◌, ℕ, suc, ◌+◌, ◌-◌, ◌*◌, ◌%◌, ◌<◌, ◌≤◌, Bool, true, false, cond, ◌&&◌, ◌||◌, eqb, leb, List, ◌++◌, length, take, drop}
use Rattle.std.proofs.Common.{replicate, sym, ap, ◌∙◌, subst, ap₂, arith, eq-eqb, ne_eqb, leb-true}
use lib.Seq.{sets}
use Rattle.image.specs.Bytes.{word, le32}
use Rattle.image.specs.declared.Mode.{Mode}
use Rattle.image.proofs.Words.{length_le32}
use Rattle.image.proofs.Bools.{and_first, and_second}
use Rattle.image.proofs.Stores.{sets_then}
use Rattle.image.proofs.Between.{whole_room}
use Rattle.image.specs.Stored.{between}
use Rattle.image.specs.Tables.{start, probe_sequence, first_empty}
use Rattle.image.specs.Steps.EntryLength.{whole_length}
use Rattle.image.specs.Steps.Contracts.{BucketIs, WholeLength, offset_at}
use Rattle.image.proofs.Bools.{false_not_true, or_false_first, or_false_second}
use Rattle.serialize.specs.Steps.Insertion.{holds_table, inserted, inserted_by_row, EntryPre, entry_hash}
use Rattle.serialize.specs.Steps.Insertion.{back_stored, entry_inserted, InsertEntriesPre, inserted_from}
use Rattle.serialize.specs.Steps.Meeting.{name_in, Unmet, ProbePre, Probed, PairInserted, RowUnmet, RowInserted, EntryInserted, UnmetFrom}
use Rattle.serialize.specs.Steps.Meeting.{EntriesInserted, SinglyDone}
use Rattle.serialize.specs.Steps.Written.{zeroed}

-- ---- a pair

pub pair_stored : (b b1 b2 : List ℕ) (at h v : ℕ) → b1 ≡ sets b at (le32 h) → b2 ≡ sets b1 (at + 4) (le32 v) → b2 ≡ sets b at (le32 h ++ le32 v)
pair_stored b b1 b2 at h v p q =
    q ∙ ap (λ (l : List ℕ). sets l (at + 4) (le32 v)) p
    ∙ sets_then (le32 h) (le32 v) b at (at + 4) (omega (arith, length_le32 h))

pub pair_inserted : (buf : List ℕ) (end o n h at k : ℕ) {met : Bool} {buf' : List ℕ} → Probed buf end o n h at k met
    → buf' ≡ sets buf (o + 8 * k) (le32 h ++ le32 at) → h < 4294967296 → at < 4294967296 → PairInserted buf end o n h at buf' met
unfolding inserted
pair_inserted buf end o n h at k found p hash_word offset_word =
    record {
      stored = p ∙ ap (λ (j : ℕ). sets buf (o + 8 * j) (le32 h ++ le32 at)) found.first.is;
      hash_word = hash_word;
      offset_word = offset_word;
      unmet = found.unmet;
    }

-- the name of an entry, as it is read
pub name_in_read : (f : List ℕ) (at n : ℕ) {name : List ℕ} → n ≡ whole_length (between f at (length f)) → name ≡ take (n - 1) (drop (at + 8) f)
    → name ≡ name_in f at
unfolding name_in
name_in_read f at n is e = e ∙ ap (λ (k : ℕ). take (k - 1) (drop (at + 8) f)) is

-- a test that was true
pub not_met : {A : Type 0} → true ≡ false → A
not_met z = absurd (false_not_true (sym z))

-- where an entry met one of equal name and `stop` is set, nothing is said of the bytes
pub stopped : {A : Type 0} (stop one : Bool) → (stop && one) ≡ true → (stop && true) ≡ false → A
stopped true one e z = not_met z
stopped false one e z = not_met (sym e)

-- the first empty bucket, where an entry of equal name was met
pub restarted : (buf : List ℕ) (end o n h at i k : ℕ) → BucketIs (start h n) n i → BucketIs (first_empty (offset_at buf o) (probe_sequence n n i)) n k
    → Probed buf end o n h at k true
restarted buf end o n h at i k s e =
    record {
      first = record { is = e.is ∙ ap (λ (j : ℕ). first_empty (offset_at buf o) (probe_sequence n n j)) s.is; inside = e.inside };
      unmet = not_met;
    }

pub table_in : {buf : List ℕ} {end o n : ℕ} {b : Bool} → b ≡ holds_table buf o n → b ≡ true → end ≤ length buf → ProbePre buf end o n
table_in {buf} {end} {o} {n} e holds front =
    let h = sym e ∙ holds in
    record {
      front = front;
      some = leb-true 1 n (and_first (leb 1 n) (leb (o + 8 * n) (length buf)) h);
      inside = leb-true (o + 8 * n) (length buf) (and_second (leb 1 n) (leb (o + 8 * n) (length buf)) h);
    }

module _ (buf : List ℕ) (h at : ℕ) {o n : ℕ} {b : Bool} (is-o : o ≡ word buf (24 + 8 * (h % 256))) (is-n : n ≡ word buf (28 + 8 * (h % 256)))
    (is_b : b ≡ holds_table buf o n) where
  by_row : cond b (inserted buf o n h at) buf ≡ inserted_by_row buf h at
  unfolding inserted_by_row
  by_row =
      ap (λ (t : Bool). cond t (inserted buf o n h at) buf) is_b
      ∙ ap₂ (λ (x : ℕ) (y : ℕ). cond (holds_table buf x y) (inserted buf x y h at) buf) is-o is-n

  pub row_none : (end : ℕ) → b ≡ false → RowInserted buf end h at buf true
  row_none end lacks = record { leaves = sym (ap (λ (t : Bool). cond t (inserted buf o n h at) buf) lacks) ∙ by_row; unmet = not_met }

  pub row_inserted : (end : ℕ) → b ≡ true → {buf' : List ℕ} {met : Bool} → PairInserted buf end o n h at buf' met → RowInserted buf end h at buf' met
  row_inserted end holds p =
      record {
        leaves = p.stored ∙ sym (ap (λ (t : Bool). cond t (inserted buf o n h at) buf) holds) ∙ by_row;
        unmet = λ z. subst (λ (x : ℕ). Unmet buf end x (word buf (28 + 8 * (h % 256))) h at) is-o
            (subst (λ (y : ℕ). Unmet buf end o y h at) is-n (p.unmet z));
      }

-- ---- an entry

pub entry_inserted_lem : (mode : Mode) (back_start : ℕ) (buf : List ℕ) (end at n : ℕ) {id h : ℕ} {b1 b2 : List ℕ} {met : Bool} → id ≡ word buf at
    → h ≡ entry_hash buf at n → RowInserted buf end h at b1 met → b2 ≡ back_stored mode b1 back_start id at
    → EntryInserted mode back_start buf end at n b2 met
unfolding entry_inserted
entry_inserted_lem mode back_start buf end at n ei eh p q =
    record {
      leaves =
          q
          ∙ ap₂ (λ (l : List ℕ) (i : ℕ). back_stored mode l back_start i at) (p.leaves ∙ ap (λ (k : ℕ). inserted_by_row buf k at) eh) ei;
      unmet = λ z. subst (λ (k : ℕ). RowUnmet buf end k at) eh (p.unmet z);
    }

-- ---- a walk over the entries

-- a whole entry lies before the end
pub entry_in : {back_start end : ℕ} {buf₀ : List ℕ} → InsertEntriesPre back_start end buf₀ → (buf : List ℕ) → length buf ≡ length buf₀
    → (at n : ℕ) → at ≤ end
    → WholeLength buf at end n → (at + (8 + n) ≤ end) × EntryPre at n buf
entry_in pre buf long at n before w =
    let r = whole_room (record { from = before; inside = omega (arith, pre.inside) }) w in
    (r.before, record { inside = r.name.inside; some = r.name.some; length_word = w.small; offset_word = omega (arith, pre.end_word) })

-- the entries from `at` on, inserted into this buffer, leave what all entries leave, and meet none if all meet none
pub record Inserting (mode : Mode) (back_start end entries : ℕ) (buf₀ buf : List ℕ) (at left : ℕ) (met : Bool) : Type 0 where
  pub inside : at ≤ end
  pub long : length buf ≡ length buf₀
  pub leaves : inserted_from mode back_start end left at buf ≡ inserted_from mode back_start end entries 2072 buf₀
  pub unmet : met ≡ false → UnmetFrom mode back_start end left at buf → UnmetFrom mode back_start end entries 2072 buf₀

module _ {mode : Mode} {back_start end entries : ℕ} {buf₀ buf : List ℕ} {at left : ℕ} {met : Bool}
    (inv : Inserting mode back_start end entries buf₀ buf at left met) where
  abbrev from : ℕ → List ℕ
  from n = inserted_from mode back_start end (left - 1) (at + (8 + n)) (entry_inserted mode back_start buf at n)

  module _ {n : ℕ} (more : 0 < left) (is : n ≡ whole_length (between buf at end)) where
    next : cond (eqb n 0) buf (from n) ≡ inserted_from mode back_start end entries 2072 buf₀
    unfolding inserted_from
    next =
        let m : suc (left - 1) ≡ left = omega arith in
        ap (λ (k : ℕ). cond (eqb k 0) buf (from k)) is ∙ ap (λ (k : ℕ). inserted_from mode back_start end k at buf) m ∙ inv.leaves

    pub inserted_broken : (stop : Bool) → n ≡ 0 → EntriesInserted stop mode back_start end entries buf₀ buf true
    inserted_broken stop z = record { leaves = λ _. sym (ap (λ (b : Bool). cond b buf (from n)) (eq-eqb n 0 z)) ∙ next; unmet = not_met }

    -- the first meets none, and then the others
    abbrev Both : ℕ → Type 0
    Both k = RowUnmet buf end (entry_hash buf at k) at × UnmetFrom mode back_start end (left - 1) (at + (8 + k))
        (entry_inserted mode back_start buf at k)

    unmet_next : met ≡ false → Both n → UnmetFrom mode back_start end entries 2072 buf₀
    unmet_next z two =
        let m : suc (left - 1) ≡ left = omega arith in
        inv.unmet z (subst (λ (k : ℕ). UnmetFrom mode back_start end k at buf) m (subst Both is two))

    pub inserted_step : (n ≡ 0 → ⊥) → at + (8 + n) ≤ end → (buf' : List ℕ) → length buf' ≡ length buf → {one : Bool}
        → EntryInserted mode back_start buf end at n buf' one → Inserting mode back_start end entries buf₀ buf' (at + (8 + n)) (left - 1)
        (met || one)
    inserted_step some before buf' same {one} done = record {
      inside = before;
      long = same ∙ inv.long;
      leaves =
          ap (inserted_from mode back_start end (left - 1) (at + (8 + n))) done.leaves
          ∙ sym (ap (λ (b : Bool). cond b buf (from n)) (ne_eqb n 0 some))
          ∙ next;
      unmet = λ z rest. unmet_next (or_false_first met one z)
          (done.unmet (or_false_second met one z), subst (UnmetFrom mode back_start end (left - 1) (at + (8 + n))) done.leaves rest);
    }

  pub inserted_all : (stop : Bool) → left ≡ 0 → EntriesInserted stop mode back_start end entries buf₀ buf met
  unfolding inserted_from
  inserted_all stop e =
      record {
        leaves = λ _. sym (ap (λ (k : ℕ). inserted_from mode back_start end k at buf) e) ∙ inv.leaves;
        unmet = λ z. inv.unmet z (subst (λ (k : ℕ). UnmetFrom mode back_start end k at buf) (sym e) tt);
      }

-- from cleared tables and back array
pub inserted_in : {stop : Bool} (mode : Mode) (back_start end entries size : ℕ) (buf : List ℕ) {b1 b2 : List ℕ} {met : Bool}
    → b1 ≡ sets buf end (replicate (size - end) 0) → EntriesInserted stop mode back_start end entries b1 b2 met
    → SinglyDone stop mode back_start end entries size buf b2 met
unfolding zeroed
inserted_in {stop} mode back_start end entries size buf {b1} {b2} {met} p q =
    subst (λ (b : List ℕ). EntriesInserted stop mode back_start end entries b b2 met) p q
