-- The table of powers of two: one test that the checker computes over all its entries, and the law that turns it into the
-- rule of each. Assumes nothing.
use Rattle.std.proofs.Common.{◌≡◌, ℕ, zero, suc, ◌+◌, ◌%◌, ◌^◌, ◌<◌, List, [], ◌∷◌, get_or, sym, ap, ◌∙◌, le_of_suc-le-suc, not-suc-le-zero, add-zero}
use Rattle.std.proofs.Common.{add-suc, suc-add, zero-add, arith}

-- n powers of two in a row, the first of them 2 ^ i
abbrev pub powers_from : ℕ → ℕ → List ℕ
powers_from i zero = []
powers_from i (suc n) = 2 ^ i ∷ powers_from (suc i) n

entry : (i n k : ℕ) → k < n → get_or (powers_from i n) k 0 ≡ 2 ^ (i + k)
entry i zero k h = absurd (not-suc-le-zero h)
entry i (suc n) zero h = ap (λ (m : ℕ). 2 ^ m) (sym (add-zero i))
entry i (suc n) (suc k) h = entry (suc i) n k (le_of_suc-le-suc h) ∙ ap (λ (m : ℕ). 2 ^ m) (suc-add i k ∙ sym (add-suc i k))

-- the test is that a table equals the list of the 32 powers; then it has 2 ^ k at each place k
pub power_at : (table : List ℕ) → table ≡ powers_from 0 32 → (k : ℕ) → get_or table (k % 32) 0 ≡ 2 ^ (k % 32)
power_at table right k =
    ap (λ (l : List ℕ). get_or l (k % 32) 0) right ∙ entry 0 32 (k % 32) (omega arith) ∙ ap (λ (m : ℕ). 2 ^ m) (zero-add (k % 32))
