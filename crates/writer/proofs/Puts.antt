-- What put answers in each case, in the order of its checks. Assumes nothing.
use Prim.Native.Nat.{ℕ, suc, ◌+◌, ◌≤◌, ◌<◌}
use native.Mathlib.Omega.{arith}
use mathlib.Core.Path.{◌≡◌, refl, sym, ap, ◌∙◌}
use mathlib.Core.Bool.{Bool, true, false, cond, not, ◌||◌, or-true}
use mathlib.Core.List.{List}
use lib.ListN.{length, get_or}
use native.Mathlib.Nat.{mod-lt}
use lib.Seq.{sets}
use lib.Dec.{eqb, leb, ltb, lit<}
use borrow.Author.Tests.{lt-ltb, leb-true, eq-eqb, ne_eqb, eqb-false}
use Rattle.jhash.specs.NameHash.{hash_of}
use Rattle.image.specs.Tables.{table_of}
use Rattle.image.specs.Image.{Entry, entry_bytes}
use Rattle.writer.specs.State.{State, state_with, fits, finished_size, too_large}
use Rattle.image.specs.Zero.{has_zero}
use Rattle.image.specs.Tally.{raised_counts, counts_after}
use Rattle.writer.specs.Put.{entry_of, writer_after_put, writer_after_entry, put_refusal, appended, after_put}
use Rattle.writer.specs.declared.CQDBWriter.{CQDBWriter}
use Rattle.image.proofs.AllOfRange.{all_each}
use Rattle.writer.specs.Steps.Earlier.{earlier_refusal}
use Rattle.writer.proofs.Fits.{fitting, not_too_large}
use Rattle.writer.proofs.Earlier.{in_order}

-- a refusal's number is not 0
some_none : (k : ℕ) → suc k ≡ 0 → ⊥
some_none k z = omega arith

module _ (s : State) (e : Entry) where
  abbrev full : Bool
  full = too_large s.writer.length (finished_size (writer_after_entry s.writer e))

  abbrev early : ℕ
  early = earlier_refusal s e.name

  -- the decision, with what the earlier entries make due as one number
  by_number : put_refusal s e ≡ cond (not (fits s)) 2 (cond (has_zero e.name) 13 (cond (eqb early 0) (cond full 3 0) early))
  unfolding put_refusal
  by_number = ap (λ (k : ℕ). cond (not (fits s)) 2 (cond (has_zero e.name) 13 k)) (in_order s e.name (cond full 3 0))

  -- the decision, check by check
  pub refuses_unfit : fits s ≡ false → 2 ≡ put_refusal s e
  unfolding put_refusal
  refuses_unfit h = rw h refl

  pub refuses_zero : fits s ≡ true → has_zero e.name ≡ true → 13 ≡ put_refusal s e
  unfolding put_refusal
  refuses_zero h z = rw (h, z) refl

  pub refuses_earlier : fits s ≡ true → has_zero e.name ≡ false → (k : ℕ) → k ≡ earlier_refusal s e.name → (k ≡ 0 → ⊥) → k ≡ put_refusal s e
  refuses_earlier h z k told some = rw by_number (rw (h, z, ne_eqb early 0 (λ y. some (told ∙ y))) told)

  pub refuses_full : fits s ≡ true → has_zero e.name ≡ false → earlier_refusal s e.name ≡ 0 → full ≡ true → 3 ≡ put_refusal s e
  refuses_full h z none k = rw by_number (rw (h, z, eq-eqb early 0 none, k) refl)

  pub accepts : fits s ≡ true → has_zero e.name ≡ false → earlier_refusal s e.name ≡ 0 → full ≡ false → 0 ≡ put_refusal s e
  accepts h z none k = rw by_number (rw (h, z, eq-eqb early 0 none, k) refl)

  -- what an accepted put has passed
  pub record Passed : Type 0 where
    pub fitted : fits s ≡ true
    pub zero_free : has_zero e.name ≡ false
    pub has_capacity : full ≡ false

  pub passed : put_refusal s e ≡ 0 → Passed
  passed h = all_passed (fits s) (has_zero e.name) (eqb early 0) full refl refl refl refl (sym by_number ∙ h)
    where
      all_passed : (f z b t : Bool) → fits s ≡ f → has_zero e.name ≡ z → eqb early 0 ≡ b → full ≡ t
          → ◌≡◌ {A = ℕ} (cond (not f) 2 (cond z 13 (cond b (cond t 3 0) early))) 0 → Passed
      all_passed true false true false p q b r e = record { fitted = p; zero_free = q; has_capacity = r }
      all_passed true false true true p q b r e = absurd (some_none 2 e)
      all_passed true false false t p q b r e = absurd (eqb-false early 0 b e)
      all_passed true true b t p q g r e = absurd (some_none 12 e)
      all_passed false z b t p q g r e = absurd (some_none 1 e)

  -- the effect: a refusal leaves everything, an accepted put appends
  pub refused_leaves : (k : ℕ) → k ≡ put_refusal s e → (k ≡ 0 → ⊥) → s ≡ after_put s e
  unfolding after_put
  refused_leaves k told some = rw (ne_eqb (put_refusal s e) 0 (λ z. some (told ∙ z))) refl

  pub accepted_leaves : put_refusal s e ≡ 0 → appended s e ≡ after_put s e
  unfolding after_put
  accepted_leaves told = rw (eq-eqb (put_refusal s e) 0 told) refl

-- a name that is too long for a hash is too long for any image
pub long_name : (w : CQDBWriter) (name : List ℕ) (id : ℕ) → 4294967295 ≤ length name
    → too_large w.length (finished_size (writer_after_entry w (entry_of name id))) ≡ true
unfolding writer_after_entry
long_name w name id h =
    let size = finished_size (writer_after_entry w (entry_of name id)) in
    let k : 4294967295 < size = omega arith in
    ap (λ (b : Bool). ltb w.length size || b) (lt-ltb 4294967295 size k) ∙ or-true (ltb w.length size)

-- what an accepted put leaves, part by part
pub appended_parts : (w v : CQDBWriter) (counts counts' buf buf' name : List ℕ) (id h : ℕ) → h ≡ hash_of name
    → v ≡ writer_after_put w (length name) id → counts' ≡ raised_counts counts h
    → buf' ≡ sets buf w.end (entry_bytes (entry_of name id))
    → state_with v counts' buf' ≡ appended (state_with w counts buf) (entry_of name id)
unfolding appended writer_after_entry counts_after
appended_parts w v counts counts' buf buf' name id h e p q r =
    λ i. record {
      writer = p i;
      counts = (q ∙ ap (λ (k : ℕ). raised_counts counts k) e) i;
      buffer = r i;
    }

-- what the checks leave for the stores
module _ (w : CQDBWriter) (counts buf : List ℕ) (n id : ℕ) (yes : fits (state_with w counts buf) ≡ true)
    (fine : too_large w.length (finished_size (writer_after_put w n id)) ≡ false) where
  pub size_small : finished_size (writer_after_put w n id) ≤ 4294967295
  size_small = (not_too_large w.length (finished_size (writer_after_put w n id)) fine).1

  pub entry_fits : w.end + (n + 9) ≤ length buf
  unfolding writer_after_put
  entry_fits =
      let f = fitting w counts buf yes in
      let h = (not_too_large w.length (finished_size (writer_after_put w n id)) fine).0 in
      let e = f.same_length in
      omega arith

  pub count_small : (h : ℕ) → get_or counts (table_of h) 0 < 4294967295
  unfolding writer_after_put
  count_small h =
      let f = fitting w counts buf yes in
      let s = size_small in
      let t : table_of h < 256 = mod-lt h (lit< tt) in
      let z : 0 + table_of h ≡ table_of h = omega arith in
      let k : get_or counts (0 + table_of h) 0 ≤ w.entries =
      leb-true (get_or counts (0 + table_of h) 0) w.entries
      (all_each (λ (i : ℕ). leb (get_or counts i 0) w.entries) 0 256 (table_of h) f.none t) in
      let l : get_or counts (table_of h) 0 ≤ w.entries = rw z at k in
      omega arith
