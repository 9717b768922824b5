-- A probe, slot by slot, and its three results. Assumes nothing.
use Prim.Native.Nat.{ℕ, zero, suc, ◌+◌, ◌-◌, ◌/◌, ◌<◌}
use native.Mathlib.Omega.{arith}
use native.Mathlib.Decide.{ℕ_discrete}
use native.Mathlib.Nat.{mod-lt}
use mathlib.Core.Path.{◌≡◌, refl, sym, ap, ap₂, ◌∙◌}
use mathlib.Core.Bool.{Bool, true, false, cond, ◌&&◌, and-false}
use mathlib.Core.List.{List, [], ◌∷◌}
use mathlib.Core.Logic.{◌⊎◌, inl, inr}
use borrow.Author.Tests.{eq-eqb, ne_eqb, eqb-true, eqb-false}
use lib.Dec.{eqb}
use Rattle.image.specs.Tables.{Bucket, start, next, probe_sequence, first_empty}
use Rattle.image.proofs.Buckets.{probe_sequence_step}
use Rattle.image.proofs.AllOfList.{All}
use Rattle.lookup_laws.specs.Steps.HasMatch.{has_match}
use Rattle.lookup_laws.proofs.TableContents.{NotEmpty}
use Rattle.index.specs.Index.{slot_count, slot_at, slot_sequence, first_empty_slot}
use Rattle.image.specs.Steps.Contracts.{BucketIs}
use Rattle.index.specs.Probe.{probe_along, probe_slots}
use Rattle.index.specs.Steps.Probed.{SlotProbed}

-- the rest of the probe sequence, `left` slots from slot k on, gives the result of the whole
pub record Rest (words : List ℕ) (h : ℕ) (v : ℕ → Bool) (left k : ℕ) : Type 0 where
  pub inside : k < slot_count words
  pub rest : probe_along (slot_count words) (slot_at words) h v (probe_sequence (slot_count words) left k) ≡ probe_slots words h v

pub rest_start : (words : List ℕ) (h : ℕ) (v : ℕ → Bool) {left k : ℕ} → left ≡ slot_count words
    → BucketIs (start h (slot_count words)) (slot_count words) k → Rest words h v left k
rest_start words h v all at =
    record {
      inside = at.inside;
      rest = ap₂ (λ (n i : ℕ). probe_along (slot_count words) (slot_at words) h v (probe_sequence (slot_count words) n i)) all at.is;
    }

pub probe_none : (words : List ℕ) (h : ℕ) (v : ℕ → Bool) → slot_count words ≡ 0 → probe_slots words h v ≡ slot_count words
unfolding probe_along probe_sequence
probe_none words h v z =
    let m = slot_count words in
    ap (λ (n : ℕ). probe_along m (slot_at words) h v (probe_sequence m n (start h m))) z

module _ {words : List ℕ} {h : ℕ} {v : ℕ → Bool} {left k : ℕ} (s : Rest words h v left k) where
  abbrev m : ℕ
  m = slot_count words

  abbrev b : Bucket
  b = slot_at words k

  pub rest_end : left ≡ 0 → probe_slots words h v ≡ slot_count words
  unfolding probe_along probe_sequence
  rest_end z = sym s.rest ∙ ap (λ (n : ℕ). probe_along m (slot_at words) h v (probe_sequence m n k)) z

  module _ (more : 0 < left) where
    later : ℕ
    later = probe_along m (slot_at words) h v (probe_sequence m (left - 1) (next m k))

    turn : cond (eqb b.at 0) k (cond (eqb b.hash h && v b.at) (m + 1) later) ≡ probe_slots words h v
    unfolding probe_along later
    turn = sym (ap (probe_along m (slot_at words) h v) (probe_sequence_step m left k more)) ∙ s.rest

    pub rest_empty : (slot_at words k).at ≡ 0 → SlotProbed (slot_count words) (probe_slots words h v) k
    rest_empty z =
        record {
          below = s.inside;
          is = sym turn ∙ ap (λ (t : Bool). cond t k (cond (eqb b.hash h && v b.at) (m + 1) later)) (eq-eqb b.at 0 z);
        }

    passed : NotEmpty b → cond (eqb b.hash h && v b.at) (m + 1) later ≡ probe_slots words h v
    passed full =
        sym (ap (λ (t : Bool). cond t k (cond (eqb b.hash h && v b.at) (m + 1) later)) (ne_eqb b.at 0 full)) ∙ turn

    pub rest_match : NotEmpty (slot_at words k) → (slot_at words k).hash ≡ h → v (slot_at words k).at ≡ true
        → probe_slots words h v ≡ slot_count words + 1
    rest_match full e t =
        sym (passed full)
        ∙ ap (λ (x : Bool). cond (x && v b.at) (m + 1) later) (eq-eqb b.hash h e) ∙ ap (λ (x : Bool). cond x (m + 1) later) t

    pub rest_next : NotEmpty (slot_at words k) → ((slot_at words k).hash ≡ h → v (slot_at words k).at ≡ false)
        → {left' k' : ℕ} → left' ≡ left - 1 → BucketIs (next (slot_count words) k) (slot_count words) k'
        → Rest words h v left' k'
    unfolding later
    rest_next full other {left'} {k'} fewer to =
        record {
          inside = to.inside;
          rest =
              ap₂ (λ (n i : ℕ). probe_along m (slot_at words) h v (probe_sequence m n i)) fewer to.is
              ∙ sym (ap (λ (x : Bool). cond x (m + 1) later) (no_match (ℕ_discrete b.hash h)))
              ∙ passed full;
        }
      where
        no_match : Dec (b.hash ≡ h) → (eqb b.hash h && v b.at) ≡ false
        no_match (yes p) = ap (λ (t : Bool). eqb b.hash h && t) (other p) ∙ and-false (eqb b.hash h)
        no_match (no p) = ap (λ (t : Bool). t && v b.at) (ne_eqb b.hash h p)

-- ---- the result of a probe: a match, an empty slot, or neither

-- the slots of a probe sequence are slots
order_below : (m n k : ℕ) → (0 < n → k < m) → All (λ (i : ℕ). i < m) (probe_sequence m n k)
unfolding probe_sequence
order_below m zero k h = tt
order_below m (suc n) k h =
    let inside : k < m = h (omega arith) in
    (inside, order_below m n (next m k) (λ more. mod-lt (k + 1) (omega (arith, inside))))

pub sequence_below : (words : List ℕ) (h : ℕ) → All (λ (k : ℕ). k < slot_count words) (slot_sequence words h)
sequence_below words h = order_below (slot_count words) (slot_count words) (start h (slot_count words)) (λ some. mod-lt (h / 256) some)

module _ (words : List ℕ) (h : ℕ) (v : ℕ → Bool) where
  abbrev probed : List ℕ → ℕ
  probed ks = probe_along (slot_count words) (slot_at words) h v ks

  pub record Matched (ks : List ℕ) : Type 0 where
    pub is : probed ks ≡ slot_count words + 1
    pub matching : has_match (slot_at words) h v ks ≡ true

  pub record EmptyFound (ks : List ℕ) : Type 0 where
    pub below : probed ks < slot_count words
    pub matching : has_match (slot_at words) h v ks ≡ false
    pub is : probed ks ≡ first_empty (λ (k : ℕ). (slot_at words k).at) ks
    pub some : All (λ (k : ℕ). NotEmpty (slot_at words k)) ks → ⊥

  pub record NoneEmpty (ks : List ℕ) : Type 0 where
    pub is : probed ks ≡ slot_count words
    pub matching : has_match (slot_at words) h v ks ≡ false
    pub full : All (λ (k : ℕ). NotEmpty (slot_at words k)) ks

  abbrev pub Result : List ℕ → Type 0
  Result ks = Matched ks ⊎ (EmptyFound ks ⊎ NoneEmpty ks)

  along : (ks : List ℕ) → All (λ (k : ℕ). k < slot_count words) ks → Result ks
  unfolding probe_along has_match first_empty
  along [] all = inr (inr (record { is = refl; matching = refl; full = tt }))
  along (k ∷ ks) all = by_bucket (eqb (slot_at words k).at 0) refl (eqb (slot_at words k).hash h && v (slot_at words k).at) refl (along ks all.1)
    where
      by_bucket : (t : Bool) → eqb (slot_at words k).at 0 ≡ t → (u : Bool) → (eqb (slot_at words k).hash h && v (slot_at words k).at) ≡ u
          → Result ks → Result (k ∷ ks)
      by_bucket true p u q rest =
          inr (inl (record { below = rw p all.0; matching = rw p refl; is = rw p refl; some = λ full. full.0 (eqb-true (slot_at words k).at 0 p) }))
      by_bucket false p true q rest = inl (record { is = rw (p, q) refl; matching = rw (p, q) refl })
      by_bucket false p false q (inl r) = inl (record { is = rw (p, q) r.is; matching = rw (p, q) r.matching })
      by_bucket false p false q (inr (inl r)) =
          inr (inl (record { below = rw (p, q) r.below; matching = rw (p, q) r.matching; is = rw (p, q) r.is; some = λ full. r.some full.1 }))
      by_bucket false p false q (inr (inr r)) =
          inr (inr (record { is = rw (p, q) r.is; matching = rw (p, q) r.matching; full = (eqb-false (slot_at words k).at 0 p, r.full) }))

  pub result : Result (slot_sequence words h)
  result = along (slot_sequence words h) (sequence_below words h)

  -- a result below the number of slots is the first empty slot
  pub probe_first : probe_slots words h v < slot_count words → probe_slots words h v ≡ first_empty_slot words h
  probe_first l = by_result result
    where
      by_result : Result (slot_sequence words h) → probe_slots words h v ≡ first_empty_slot words h
      by_result (inl o) = absurd (omega (arith, l, o.is))
      by_result (inr (inl o)) = o.is
      by_result (inr (inr o)) = absurd (omega (arith, l, o.is))

-- ---- a probe that asks for no name

abbrev pub never : ℕ → Bool
never a = false

pub never_matches : (b : ℕ → Bucket) (h : ℕ) (ks : List ℕ) → has_match b h never ks ≡ false
unfolding has_match
never_matches b h [] = refl
never_matches b h (k ∷ ks) = by_tests (eqb (b k).at 0) (eqb (b k).hash h) (never_matches b h ks)
  where
    by_tests : (p q : Bool) → has_match b h never ks ≡ false → cond p false (cond (q && false) true (has_match b h never ks)) ≡ false
    by_tests true q rest = refl
    by_tests false true rest = rest
    by_tests false false rest = rest
