-- A search along the slots of an open-addressing table: where it ends, what it has told by then, and that a table with fewer entries than slots
-- has an empty one. The slots are any function from their numbers to buckets. Assumes nothing.
use Prim.Native.Nat.{ℕ, zero, suc, ◌+◌, ◌-◌, ◌/◌, ◌≤◌, ◌<◌}
use native.Mathlib.Omega.{arith}
use native.Mathlib.Decide.{ℕ_discrete}
use native.Mathlib.Nat.{mod-lt}
use mathlib.Core.Path.{◌≡◌, refl, sym, ap, ◌∙◌}
use mathlib.Core.Bool.{Bool, false, true, cond, ◌&&◌, and-false}
use mathlib.Core.List.{List, [], ◌∷◌, ◌++◌, map}
use mathlib.Core.Logic.{inr}
use borrow.Author.Tests.{eq-eqb, ne_eqb, eqb-false}
use lib.Dec.{eqb}
use lib.ListN.{length, get_or, set}
use Rattle.image.specs.Tables.{Bucket, empty, at_of, start, next, probe_sequence, first_empty, insert, filled, Filled}
use Rattle.image.proofs.AllOfList.{All}
use Rattle.image.proofs.Buckets.{length-probe_sequence, probe_sequence_step, first_empty_ext}
use Rattle.image.proofs.Sizes.{filled_more}
use Rattle.reader.specs.Lookup.{Probe, pass, ends}
use Rattle.lookup_laws.specs.Steps.HasMatch.{has_match}
use Rattle.lookup_laws.proofs.Scan.{used}
use Rattle.lookup_laws.proofs.ProbeSequence.{view}
use Rattle.lookup_laws.proofs.SearchFilling.{EndsAtEmpty}
use Rattle.lookup_laws.proofs.TableContents.{OtherStart, NotEmpty, filled_used}
use Rattle.lookup_laws.proofs.Matching.{has_match_equal, no_match}

-- ---- the search, slot by slot

-- a slot of another hash, or whose entry is not equal
not_equal : (b : Bucket) (h : ℕ) (v : ℕ → Bool) → (b.hash ≡ h → v b.at ≡ false) → (eqb b.hash h && v b.at) ≡ false
not_equal b h v other =
    elim (ℕ_discrete b.hash h) [
      | yes p ↦ ap (λ (t : Bool). eqb b.hash h && t) (other p) ∙ and-false (eqb b.hash h)
      | no p ↦ ap (λ (t : Bool). t && v b.at) (ne_eqb b.hash h p)
    ]

module _ (b : ℕ → Bucket) (v : ℕ → Bool) (h m : ℕ) where
  -- the rest of the probe sequence, `left` slots from slot k on, has the first empty slot and the match of the whole; no slot before it is empty
  pub record Remaining (left k : ℕ) : Type 0 where
    pub inside : k < m
    pub first : first_empty (λ (j : ℕ). (b j).at) (probe_sequence m left k) ≡ first_empty (λ (j : ℕ). (b j).at) (probe_sequence m m (start h m))
    pub same_match : has_match b h v (probe_sequence m left k) ≡ has_match b h v (probe_sequence m m (start h m))
    pub passed : All (λ (j : ℕ). NotEmpty (b j)) (probe_sequence m left k) → All (λ (j : ℕ). NotEmpty (b j)) (probe_sequence m m (start h m))

  pub remaining_start : 0 < m → Remaining m (start h m)
  remaining_start some = record { inside = mod-lt (h / 256) some; first = refl; same_match = refl; passed = λ all. all }

module _ {b : ℕ → Bucket} {v : ℕ → Bool} {h m left k : ℕ} (s : Remaining b v h m left k) where
  -- no slot is left: all were taken
  pub remaining_end : left ≡ 0 → All (λ (j : ℕ). NotEmpty (b j)) (probe_sequence m m (start h m))
  unfolding probe_sequence
  remaining_end z = s.passed (rw z tt)

  module _ (more : 0 < left) where
    abbrev offsets : ℕ → ℕ
    offsets j = (b j).at

    abbrev all : List ℕ
    all = probe_sequence m m (start h m)

    abbrev rest : List ℕ
    rest = probe_sequence m (left - 1) (next m k)

    -- what the slot decides
    empty_turn : cond (eqb (b k).at 0) k (first_empty offsets rest) ≡ first_empty offsets all
    unfolding first_empty
    empty_turn = sym (ap (first_empty offsets) (probe_sequence_step m left k more)) ∙ s.first

    match_turn : cond (eqb (b k).at 0) false (cond (eqb (b k).hash h && v (b k).at) true (has_match b h v rest)) ≡ has_match b h v all
    unfolding has_match
    match_turn = sym (ap (has_match b h v) (probe_sequence_step m left k more)) ∙ s.same_match

    -- an empty slot ends the search
    pub first_empty_lem : (b k).at ≡ 0 → k ≡ first_empty offsets all
    first_empty_lem z = sym (ap (λ (t : Bool). cond t k (first_empty offsets rest)) (eq-eqb (b k).at 0 z)) ∙ empty_turn

    pub none_matches : (b k).at ≡ 0 → has_match b h v all ≡ false
    none_matches z =
        sym match_turn ∙ ap (λ (t : Bool). cond t false (cond (eqb (b k).hash h && v (b k).at) true (has_match b h v rest))) (eq-eqb (b k).at 0 z)

    -- one that is taken, by another entry if of this hash, is passed
    pub remaining_step : NotEmpty (b k) → ((b k).hash ≡ h → v (b k).at ≡ false) → (k' : ℕ) → k' ≡ next m k → k' < m → Remaining b v h m (left - 1) k'
    remaining_step full other k' e below =
        record {
          inside = below;
          first =
              ap (λ (i : ℕ). first_empty offsets (probe_sequence m (left - 1) i)) e
              ∙ sym (ap (λ (t : Bool). cond t k (first_empty offsets rest)) (ne_eqb (b k).at 0 full))
              ∙ empty_turn;
          same_match =
              ap (λ (i : ℕ). has_match b h v (probe_sequence m (left - 1) i)) e
              ∙ sym (ap (λ (t : Bool). cond t true (has_match b h v rest)) (not_equal (b k) h v other))
              ∙ sym (ap (λ (t : Bool). cond t false (cond (eqb (b k).hash h && v (b k).at) true (has_match b h v rest))) (ne_eqb (b k).at 0 full))
              ∙ match_turn;
          passed = λ taken. s.passed (rw (probe_sequence_step m left k more) (full, rw e at taken));
        }

-- ---- a filled table

looked : Bucket → Probe
looked b = cond (eqb b.at 0) ends pass

sees : EndsAtEmpty looked
unfolding looked
sees = record {
  empties = λ b e. ap (λ (t : Bool). cond t ends pass) (eq-eqb b.at 0 e);
  takes = λ b e. rw (ne_eqb b.at 0 e) tt;
}

module _ (b : ℕ → Bucket) where
  abbrev used_in : List ℕ → ℕ
  used_in ks = used (map (λ (k : ℕ). looked (b k)) ks)

  used_most : (ks : List ℕ) → used_in ks ≤ length ks
  unfolding looked
  used_most [] = omega arith
  used_most (k ∷ ks) = one_bucket_more (eqb (b k).at 0) (used_most ks)
    where
      one_bucket_more : (t : Bool) → used_in ks ≤ length ks → used (cond t ends pass ∷ map (λ (k : ℕ). looked (b k)) ks) ≤ suc (length ks)
      one_bucket_more true l = omega (arith, l)
      one_bucket_more false l = omega (arith, l)

  used_all : (ks : List ℕ) → All (λ (k : ℕ). NotEmpty (b k)) ks → used_in ks ≡ length ks
  unfolding looked
  used_all [] all = refl
  used_all (k ∷ ks) all = rw (ne_eqb (b k).at 0 all.0) (ap suc (used_all ks all.1))

  all_used : (ks : List ℕ) → used_in ks ≡ length ks → All (λ (k : ℕ). NotEmpty (b k)) ks
  unfolding looked
  all_used [] e = tt
  all_used (k ∷ ks) e = first_used (eqb (b k).at 0) refl (all_used ks) e
    where
      first_used : (t : Bool) → eqb (b k).at 0 ≡ t → (used_in ks ≡ length ks → All (λ (k : ℕ). NotEmpty (b k)) ks)
          → used (cond t ends pass ∷ map (λ (k : ℕ). looked (b k)) ks) ≡ suc (length ks) → NotEmpty (b k) × All (λ (k : ℕ). NotEmpty (b k)) ks
      first_used true p rest e = absurd (omega (arith, e, used_most ks))
      first_used false p rest e = (eqb-false (b k).at 0 p, rest (omega (arith, e)))

all_equal : (b d : ℕ → Bucket) (n : ℕ) → ((k : ℕ) → k < n → b k ≡ d k) → (m k : ℕ) → k < n
    → All (λ (j : ℕ). NotEmpty (b j)) (probe_sequence n m k) → All (λ (j : ℕ). NotEmpty (d j)) (probe_sequence n m k)
unfolding probe_sequence
all_equal b d n equal zero k l all = tt
all_equal b d n equal (suc m) k l all =
    ((λ z. all.0 (ap (λ (x : Bucket). x.at) (equal k l) ∙ z)), all_equal b d n equal m (next n k) (mod-lt (k + 1) (omega arith)) all.1)

-- when a slot is empty
module _ {m : ℕ} {b : ℕ → Bucket} {bs : List Bucket} (slots : Filled m b bs) (fit : length bs ≤ m) (full : All NotEmpty bs) (h : ℕ) where
  abbrev table : ℕ → Bucket
  table k = get_or (filled m bs) k empty

  abbrev ks : List ℕ
  ks = probe_sequence m m (start h m)

  counted : 0 < m → used_in table ks ≡ length bs
  unfolding view looked
  counted some =
      let apart : OtherStart looked m (start h m) = λ x taken. inr (ap (λ (t : Bool). cond t ends pass) (ne_eqb x.at 0 taken)) in
      filled_used looked sees m (start h m) (mod-lt (h / 256) some) apart bs fit full

  -- none is: there is an entry for each
  pub none_empty : All (λ (j : ℕ). NotEmpty (b j)) (probe_sequence m m (start h m)) → m ≤ length bs
  none_empty all =
      elim (ℕ_discrete m 0) [
        | yes z ↦ omega (arith, z)
        | no z ↦ by (omega (arith, z))
      ]
    where
      by : 0 < m → m ≤ length bs
      by some =
          omega (
            arith,
            counted some,
            used_all table ks (all_equal b table m slots.each m (start h m) (mod-lt (h / 256) some) all),
            length-probe_sequence m m (start h m),
          )

  -- one is: there are fewer entries than slots
  taken : length bs ≡ m → Dec (m ≡ 0) → All (λ (j : ℕ). NotEmpty (b j)) ks
  unfolding probe_sequence
  taken e (yes z) = rw z tt
  taken e (no z) =
      let some : 0 < m = omega (arith, z) in
      all_equal table b m (λ k l. sym (slots.each k l)) m (start h m) (mod-lt (h / 256) some)
      (all_used table ks (omega (arith, e, counted some, length-probe_sequence m m (start h m))))

  pub some_empty : (All (λ (j : ℕ). NotEmpty (b j)) (probe_sequence m m (start h m)) → ⊥) → length bs < m
  some_empty empties =
      elim (ℕ_discrete (length bs) m) [
        | yes e ↦ absurd (empties (taken e (ℕ_discrete m 0)))
        | no e ↦ omega (arith, e, fit)
      ]

-- what a search tells, and one entry more
module _ {m : ℕ} {b : ℕ → Bucket} {bs : List Bucket} (slots : Filled m b bs) (some : 0 < m) (h : ℕ) where
  inside : start h m < m
  inside = mod-lt (h / 256) some

  -- no slot of the search matches: of the entries of this hash none is equal
  pub none_equal : (v : ℕ → Bool) → length bs ≤ m → All NotEmpty bs → has_match b h v (probe_sequence m m (start h m)) ≡ false
      → All (λ (x : Bucket). x.hash ≡ h → v x.at ≡ false) bs
  none_equal v fit full none =
      no_match h v m bs some fit full (sym (has_match_equal b (λ (k : ℕ). get_or (filled m bs) k empty) h v m slots.each m (start h m) inside) ∙ none)

  -- one entry more, in the first empty slot
  pub filled_next : (x : Bucket) → x.hash ≡ h → (k : ℕ) → k ≡ first_empty (λ (j : ℕ). (b j).at) (probe_sequence m m (start h m))
      → filled m (bs ++ (x ∷ [])) ≡ set (filled m bs) k x
  unfolding insert
  filled_next x e k first =
      filled_more m bs x
      ∙ ap (λ (i : ℕ). set (filled m bs) i x)
      (ap (λ (y : ℕ). first_empty (at_of (filled m bs)) (probe_sequence m m (start y m))) e
      ∙ sym (first_empty_ext (λ (j : ℕ). (b j).at) (at_of (filled m bs)) m (λ j l. ap (λ (y : Bucket). y.at) (slots.each j l)) m (start h m) inside)
      ∙ sym first)
