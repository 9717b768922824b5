-- The first empty bucket of a search, bucket by bucket. Assumes nothing.
use Rattle.std.proofs.Common.{◌≡◌, ℕ, ◌-◌, ◌<◌, Bool, cond, eqb, List, sym, ap, ◌∙◌, arith, lt-ltb, eq-eqb, ne_eqb}
use Rattle.jhash.specs.Word.{AllBytes}
use Rattle.jhash.proofs.WordRead.{word_below}
use Rattle.image.specs.Tables.{next, probe_sequence, first_empty}
use Rattle.image.specs.Steps.Contracts.{BucketIs, offset_at, hidden, first_empty_before}
use Rattle.image.proofs.Buckets.{probe_sequence_step, first_empty_ext}

-- the first empty bucket is to be found among the `left` buckets from i on
pub record Probing (at : ℕ → ℕ) (n k i left : ℕ) : Type 0 where
  pub inside : i < n
  pub same : first_empty at (probe_sequence n left i) ≡ first_empty at (probe_sequence n n k)

module _ {at : ℕ → ℕ} {n k i left : ℕ} (p : Probing at n k i left) where
  -- there is no bucket left
  pub probing_none : left ≡ 0 → BucketIs (first_empty at (probe_sequence n n k)) n 0
  unfolding first_empty probe_sequence
  probing_none z = record { is = rw z at p.same; inside = omega (arith, p.inside) }

  -- one turn: the buckets from i on, by bucket i and those after it
  module _ (more : 0 < left) where
    turn : cond (eqb (at i) 0) i (first_empty at (probe_sequence n (left - 1) (next n i))) ≡ first_empty at (probe_sequence n n k)
    unfolding first_empty
    turn = sym (ap (first_empty at) (probe_sequence_step n left i more)) ∙ p.same

    pub probing_here : at i ≡ 0 → BucketIs (first_empty at (probe_sequence n n k)) n i
    probing_here z = record { is = rw (eq-eqb (at i) 0 z) at turn; inside = p.inside }

    -- the next bucket is j
    pub probing_next : (at i ≡ 0 → ⊥) → (j : ℕ) → BucketIs (next n i) n j → Probing at n k j (left - 1)
    probing_next d j e = record { inside = e.inside; same = rw e.is (rw (ne_eqb (at i) 0 d) at turn) }

-- no word is hidden from 4,294,967,296 on
pub none_hidden : (buf : List ℕ) (o n k : ℕ) → AllBytes buf → k < n
    → first_empty_before buf o n k 4294967296 ≡ first_empty (offset_at buf o) (probe_sequence n n k)
none_hidden buf o n k bytes h =
    first_empty_ext (λ (i : ℕ). hidden 4294967296 (offset_at buf o i)) (offset_at buf o) n
    (λ i l. ap (λ (b : Bool). cond b (offset_at buf o i) 0) (lt-ltb (offset_at buf o i) 4294967296 (word_below buf _ bytes))) n k h
