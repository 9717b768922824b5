-- The promise of a put by the index: by a right index its refusal is the rule's; refused it leaves all as it was, accepted it leaves the entry, its
-- count and its slot. Assumes nothing.
use Prim.Native.Nat.{ℕ, ◌≤◌, ◌<◌, ◌^◌}
use native.Mathlib.Omega.{arith}
use mathlib.Core.Path.{◌≡◌, refl, sym, ap, ◌∙◌, ap₂, subst}
use mathlib.Core.Bool.{Bool, true, false, cond, not, ◌&&◌}
use mathlib.Core.List.{List}
use Rattle.std.specs.Prelude.{Option, Some, None, Ok}
use borrow.Author.Tests.{le-ltb, ltb-true, eqb-false, leb-false, eq-eqb, ne_eqb, lt-ltb}
use lib.Dec.{eqb, leb, ltb}
use lib.ListN.{length, get_or}
use Rattle.jhash.specs.NameHash.{hash_of}
use Rattle.image.specs.Tables.{table_of}
use Rattle.image.specs.Image.{Entry, contains_name}
use Rattle.image.specs.Zero.{has_zero}
use Rattle.image.proofs.Bools.{and_first, false_not_true}
use Rattle.image.proofs.EntryArea.{AllBytes}
use Rattle.writer.specs.declared.CQDBWriter.{CQDBWriter}
use Rattle.writer.specs.State.{State, none_above, in_buffer, fits, finished_size, too_large}
use Rattle.writer.specs.Put.{writer_after_entry, repeated, put_refusal, appended}
use Rattle.writer.specs.Close.{recorded}
use Rattle.writer.proofs.Closes.{Accepted, accepted}
use Rattle.writer.proofs.Puts.{long_name, count_small}
use Rattle.index.specs.Index.{slot_count, seeks, Right, indexed_refusal, slot_stored, slot_inserted, first_empty_slot, slots_after, after_indexed}
use Rattle.index.specs.Refusals.{early_refusal, late_refusal, early_of, late_of, probed_for, refusal_by_slots}
use Rattle.index.specs.Promise.{PutIndexed}
use Rattle.index.specs.Steps.Decided.{Decided, InBounds}
use Rattle.index.proofs.Contains.{long_absent, put_probe}
use Rattle.index.proofs.RightKept.{right_after_put}

-- ---- the refusal by a right index

-- The refusal by the slots and the rule's, by their tests: a zero byte, a name too long to have a hash, repeats off, an entry of the name, a match of
-- the probe, an image too large, a probe that met no empty slot, and no slot to spare.
refusals_agree : (zero long off held met large none full : Bool) → (long ≡ true → held ≡ false) → (long ≡ true → large ≡ true)
    → (off ≡ true → met ≡ held) → (off ≡ true → met ≡ false → none ≡ full)
    → let early = cond {A = ℕ} zero 13 (cond long 3 0) in
    let late = cond {A = ℕ} large 3 0 in
    let due = cond {A = ℕ} zero 13 (cond (held && off) 16 late) in
    cond (eqb early 0) (cond off (cond met 16 (cond (eqb late 0) (cond none 24 0) late)) late) early ≡ cond (off && (eqb due 0 && full)) 24 due
refusals_agree true long true held met large none full absent over same spare = refl
refusals_agree true long false held met large none full absent over same spare = refl
refusals_agree false true off true met large none full absent over same spare = absurd (false_not_true (sym (absent refl)))
refusals_agree false true off false met false none full absent over same spare = absurd (false_not_true (over refl))
refusals_agree false true true false met true none full absent over same spare = refl
refusals_agree false true false false met true none full absent over same spare = refl
refusals_agree false false false true met large none full absent over same spare = refl
refusals_agree false false false false met large none full absent over same spare = refl
refusals_agree false false true true true large none full absent over same spare = refl
refusals_agree false false true true false large none full absent over same spare = absurd (false_not_true (same refl))
refusals_agree false false true false true large none full absent over same spare = absurd (false_not_true (sym (same refl)))
refusals_agree false false true false false true none full absent over same spare = refl
refusals_agree false false true false false false none full absent over same spare = ap (λ (b : Bool). cond {A = ℕ} b 24 0) (spare refl refl)

module _ {s : State} {words : List ℕ} (bytes : AllBytes s.buffer) (right : Right s words) (e : Entry) where
  a : Accepted s
  a = accepted s right.closes

  abbrev w : CQDBWriter
  w = s.writer

  abbrev large : Bool
  large = too_large w.length (finished_size (writer_after_entry w e))

  abbrev h : ℕ
  h = hash_of e.name

  -- what is left of the rule and of the checks for a record that closes
  by_name : put_refusal s e ≡ cond (has_zero e.name) 13 (cond (repeated s e.name) 16 (cond large 3 0))
  unfolding put_refusal
  by_name = rw (a.fit, a.all) refl

  early_by_name : early_of s e ≡ cond (has_zero e.name) 13 (cond (ltb 4294967294 (length e.name)) 3 0)
  unfolding early_refusal fits
  early_by_name =
      ap (λ (b : Bool). cond (not b) 2 (cond (has_zero e.name) 13 (cond (ltb 4294967294 (length e.name)) 3 0)))
      (and_first (in_buffer w s.buffer) (none_above s.counts w.entries) a.fit)

  late_by_size : late_of s e ≡ cond large 3 0
  unfolding late_refusal writer_after_entry
  late_by_size = by_size large refl
    where
      by_size : (t : Bool) → large ≡ t → ◌≡◌ {A = ℕ} (cond t 3 (cond (ltb 4294967294 (get_or s.counts (table_of h) 0)) 2 0)) (cond t 3 0)
      by_size true p = refl
      by_size false p =
          let few = count_small w s.counts s.buffer (length e.name) e.id a.fit p h in
          ap (λ (b : Bool). cond {A = ℕ} b 2 0) (le-ltb 4294967294 (get_or s.counts (table_of h) 0) (omega (arith, few)))

  slots_by_rule : refusal_by_slots s words e ≡ indexed_refusal s words e
  unfolding refusal_by_slots indexed_refusal
  slots_by_rule =
      rw (early_by_name, late_by_size, by_name)
      (refusals_agree (has_zero e.name) (ltb 4294967294 (length e.name)) (seeks s) (contains_name e.name (recorded s))
      (ltb (slot_count words) (probed_for s words e)) large (eqb (probed_for s words e) (slot_count words)) (leb (slot_count words) w.entries)
      (λ l. long_absent s bytes right.closes e.name (too_long l)) (λ l. long_name w e.name e.id (too_long l))
      (λ off. (put_probe bytes right off e.name).found) (λ off. (put_probe bytes right off e.name).full))
    where
      too_long : ltb 4294967294 (length e.name) ≡ true → 4294967295 ≤ length e.name
      too_long l = let more = ltb-true 4294967294 (length e.name) l in omega (arith, more)

-- an accepted put by the index is an accepted put
none_refused : (s : State) (words : List ℕ) (e : Entry) → indexed_refusal s words e ≡ 0
    → (put_refusal s e ≡ 0) × (seeks s ≡ true → s.writer.entries < slot_count words)
unfolding indexed_refusal
none_refused s words e z = by_tests (seeks s) refl (eqb (put_refusal s e) 0) refl (leb (slot_count words) s.writer.entries) refl z
  where
    by_tests : (q : Bool) → seeks s ≡ q → (a : Bool) → eqb (put_refusal s e) 0 ≡ a → (b : Bool) → leb (slot_count words) s.writer.entries ≡ b
        → ◌≡◌ {A = ℕ} (cond (q && (a && b)) 24 (put_refusal s e)) 0 → (put_refusal s e ≡ 0) × (seeks s ≡ true → s.writer.entries < slot_count words)
    by_tests true off true x true y z = absurd (omega arith)
    by_tests true off true x false y z = (z, λ o. leb-false (slot_count words) s.writer.entries y)
    by_tests true off false x b y z = absurd (eqb-false (put_refusal s e) 0 x z)
    by_tests false on a x b y z = (z, λ off. absurd (false_not_true (sym on ∙ off)))

-- ---- what a put leaves

-- the slots after an accepted put that takes this slot
abbrev pub Stored : State → List ℕ → ℕ → List ℕ → Option ℕ → Type 0
Stored s words h words' None = words' ≡ words
Stored s words h words' (Some k) = words' ≡ slot_stored words k h s.writer.end

module _ {s : State} {words : List ℕ} (bytes : AllBytes s.buffer) (e : Entry) where
  by_rule : {n : ℕ} → n ≡ refusal_by_slots s words e → Right s words → n ≡ indexed_refusal s words e
  by_rule number right = number ∙ slots_by_rule bytes right e

  pub put_refused : {n : ℕ} → n ≡ refusal_by_slots s words e → (n ≡ 0 → ⊥) → PutIndexed s words e n s words
  unfolding after_indexed
  put_refused number some =
      record {
        number = number;
        refused = λ z. (refl, refl);
        accepted = λ z. absurd (some z);
        answer = by_rule number;
        leaves = λ right. sym (ap (λ (b : Bool). cond b (appended s e) s) (ne_eqb (indexed_refusal s words e) 0 (λ z. some (by_rule number right ∙ z))));
        right = λ right. right;
      }

  module _ {h : ℕ} {slot : Option ℕ} (decided : Decided s words e h (Ok slot)) (word : e.id < 2 ^ 32) {t : State} {words' : List ℕ}
      (appends : t ≡ appended s e) (stores : Stored s words h words' slot) where
    inserted : (r : Option ℕ) → InBounds s words e h r → Stored s words h words' r → words' ≡ slots_after s words e
    inserted None b to = rw b.taken to
    inserted (Some k) b to = rw b.taken.sought (to ∙ ap₂ (λ (i x : ℕ). slot_stored words i x s.writer.end) b.taken.first b.stores.hash)

    inserts : words' ≡ slots_after s words e
    inserts = inserted slot decided.bounds stores

    stays : Right s words → Right t words'
    stays right =
        let none = none_refused s words e (sym (by_rule decided.number right)) in
        subst (λ (u : State). Right u words') (sym appends)
        (subst (Right (appended s e)) (sym inserts) (right_after_put bytes right e word none.0 none.1 (λ off. inside off slot decided.bounds)))
      where
        inside : seeks s ≡ true → (r : Option ℕ) → InBounds s words e h r → first_empty_slot words (hash_of e.name) < slot_count words
        inside off None b = absurd (false_not_true (sym b.taken ∙ off))
        inside off (Some k) b = subst (λ (i : ℕ). i < slot_count words) b.taken.first b.taken.inside

    pub put_accepted : PutIndexed s words e 0 t words'
    unfolding after_indexed
    put_accepted =
        record {
          number = decided.number;
          refused = λ n. absurd (n refl);
          accepted = λ none. (appends, inserts);
          answer = by_rule decided.number;
          leaves = λ right. appends ∙ sym (ap (λ (b : Bool). cond b (appended s e) s) (eq-eqb (indexed_refusal s words e) 0 (sym (by_rule decided.number
              right))));
          right = stays;
        }
