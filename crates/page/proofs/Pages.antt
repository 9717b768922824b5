-- Lines one after the other, and what the call gives and leaves. Assumes nothing.
use Prim.Native.Nat.{ℕ, suc, ◌+◌, ◌*◌, ◌-◌, ◌≤◌, ◌<◌, min}
use native.Mathlib.Omega.{arith}
use native.Mathlib.Decide.{dec_lt}
use mathlib.Core.Path.{◌≡◌, sym, ap, ◌∙◌}
use mathlib.Core.Bool.{Bool, true, false, cond}
use mathlib.Core.List.{List, ◌++◌}
use mathlib.Core.Option.{Option}
use lib.ListN.{length, drop}
use lib.Seq.{sets, sets-eq}
use lib.Dec.{ltb}
use borrow.Author.Tests.{lt-ltb, le-ltb}
use Rattle.jhash.specs.Outcome.{Outcome, value, refusal}
use Rattle.image.specs.Bytes.{cat, range}
use Rattle.image.proofs.Lists.{cat_append, length_cat, length_range, range_split}
use Rattle.image.proofs.Stores.{sets_then}
use Rattle.reader.specs.Naming.{name_given}
use Rattle.reader.specs.IdWalk.{upper_hint}
use Rattle.page.specs.Page.{line, lines, page}
use Rattle.page.specs.Call.{printing_lines, after_lines, printing, after_page, part_lines, part_printing, after_part}
use Rattle.page.specs.Steps.Contracts.{FrontPrinted}
use Rattle.page.proofs.Fields.{length_line}

module _ (name : ℕ → Option (List ℕ)) where
  pub length_lines : (first n : ℕ) → length (lines name first n) ≡ 45 * n
  unfolding lines
  length_lines first n =
      length_cat (line name) 45 (length_line name) (range first n) ∙ ap (λ (k : ℕ). 45 * k) (length_range first n)

  pub length_page : (n : ℕ) → length (page name n) ≡ 45 * n
  unfolding page
  length_page n = length_lines 0 n

  -- lines in two parts
  pub lines_split : (first m k : ℕ) → lines name first (m + k) ≡ lines name first m ++ lines name (first + m) k
  unfolding lines
  lines_split first m k =
      ap (cat (line name)) (range_split first m k) ∙ cat_append (line name) (range first m) (range (first + m) k)

  -- where a part of `a` ids ends, of which `left` are there: k lines follow, and none where the part has fewer than `a`
  pub behind_part : (left first a k : ℕ) → (left < a → k ≡ 0) → lines name (first + min a left) k ≡ lines name (first + a) k
  unfolding lines range
  behind_part left first a k z =
      elim (dec_lt left a) [
        | yes p ↦ ap (lines name (first + min a left)) (z p) ∙ sym (ap (lines name (first + a)) (z p))
        | no p ↦ (let e : min a left ≡ a = omega arith in ap (λ (m : ℕ). lines name (first + m) k) e)
      ]

  -- all lines are left
  pub lines_start : (out : List ℕ) (first n : ℕ) → sets out (45 * 0) (lines name (first + 0) (n - 0)) ≡ sets out 0 (lines name first n)
  lines_start out first n =
      let e : n - 0 ≡ n = omega arith in
      let f : first + 0 ≡ first = omega arith in
      ap (λ (k : ℕ). sets out 0 (lines name (first + 0) k)) e ∙ ap (λ (k : ℕ). sets out 0 (lines name k n)) f

  -- one line more is printed
  pub lines_turn : (out out₁ : List ℕ) (first i n : ℕ) → i < n → out₁ ≡ sets out (45 * i) (line name (first + i))
      → sets out₁ (45 * (i + 1)) (lines name (first + (i + 1)) (n - (i + 1))) ≡ sets out (45 * i) (lines name (first + i) (n - i))
  unfolding lines cat range
  lines_turn out out₁ first i n h e =
      let id = first + i in
      let w = length_line name id in
      let m : suc (n - (i + 1)) ≡ n - i = omega arith in
      let s : first + (i + 1) ≡ suc id = omega arith in
      let rest = lines name (suc id) (n - (i + 1)) in
      ap (λ (l : List ℕ). sets l (45 * (i + 1)) (lines name (first + (i + 1)) (n - (i + 1)))) e
      ∙ ap (λ (k : ℕ). sets (sets out (45 * i) (line name id)) (45 * (i + 1)) (lines name k (n - (i + 1)))) s
      ∙ sets_then (line name id) rest out (45 * i) (45 * (i + 1)) (omega arith)
      ∙ ap (λ (k : ℕ). sets out (45 * i) (lines name id k)) m

  -- no line is left
  pub lines_end : (out : List ℕ) (first i n : ℕ) → n ≤ i → sets out (45 * i) (lines name (first + i) (n - i)) ≡ out
  unfolding lines cat range
  lines_end out first i n h = let z : n - i ≡ 0 = omega arith in ap (λ (k : ℕ). sets out (45 * i) (lines name (first + i) k)) z

-- ---- the call, for n lines from `first` on

module _ (name : ℕ → Option (List ℕ)) (first n : ℕ) (out : List ℕ) where
  pub too_short : length out < 45 * n → FrontPrinted name first n out out (refusal 12)
  unfolding printing_lines after_lines
  too_short h =
      let t : ltb (length out) (45 * n) ≡ true = lt-ltb (length out) (45 * n) h in
      record {
        answer = sym (ap (λ (b : Bool). cond b (refusal 12) (value (45 * n))) t);
        leaves = sym (ap (λ (b : Bool). cond b out (lines name first n ++ drop (45 * n) out)) t);
      }

  -- the lines stand in front of what was behind them
  in_front : 45 * n ≤ length out → sets out 0 (lines name first n) ≡ lines name first n ++ drop (45 * n) out
  in_front h =
      let w = length_lines name first n in
      let k : 0 + length (lines name first n) ≡ 45 * n = omega arith in
      sets-eq (lines name first n) out 0 (omega arith) ∙ ap (λ (m : ℕ). lines name first n ++ drop m out) k

  pub all_printed : (out₁ : List ℕ) → 45 * n ≤ length out → out₁ ≡ sets out 0 (lines name first n)
      → FrontPrinted name first n out out₁ (value (45 * n))
  unfolding printing_lines after_lines
  all_printed out₁ h p =
      let f : ltb (length out) (45 * n) ≡ false = le-ltb (length out) (45 * n) h in
      record {
        answer = sym (ap (λ (b : Bool). cond b (refusal 12) (value (45 * n))) f);
        leaves = p ∙ in_front h ∙ sym (ap (λ (b : Bool). cond b out (lines name first n ++ drop (45 * n) out)) f);
      }

-- ---- the calls, for an image of that back size

pub whole_page : (image out out₁ : List ℕ) (size : ℕ) (r : Outcome ℕ) → size ≡ upper_hint image 0
    → FrontPrinted (name_given image) 0 size out out₁ r
    → (r ≡ printing image (length out)) × (out₁ ≡ after_page image out)
unfolding printing after_page
whole_page image out out₁ size r e p = (
  p.answer ∙ ap (λ (k : ℕ). printing_lines k (length out)) e,
  p.leaves ∙ ap (λ (k : ℕ). after_lines (name_given image) 0 k out) e,
)

pub part_of_page : (image out out₁ : List ℕ) (first count size n : ℕ) (r : Outcome ℕ) → size ≡ upper_hint image 0
    → n ≡ min count (size - first) → FrontPrinted (name_given image) first n out out₁ r
    → (r ≡ part_printing image first count (length out)) × (out₁ ≡ after_part image first count out)
unfolding part_printing after_part
part_of_page image out out₁ first count size n r e m p =
    let w : n ≡ part_lines image first count = m ∙ ap (λ (k : ℕ). min count (k - first)) e in (
      p.answer ∙ ap (λ (k : ℕ). printing_lines k (length out)) w,
      p.leaves ∙ ap (λ (k : ℕ). after_lines (name_given image) first k out) w,
    )
