-- `batch::round` meets its contract. Assumes nothing.
use Prim.Native.Nat.{ℕ, ◌*◌, ◌/◌}
use native.Mathlib.Omega.{arith}
use mathlib.Core.Path.{◌≡◌, refl, sym, ap, ◌∙◌}
use mathlib.Core.Bool.{true, false}
use mathlib.Core.List.{List, ◌++◌}
use borrow.Author.Tests.{lt-ltb, le-ltb}
use lib.ListN.{length, drop, length-take}
use Rattle.std.specs.Borrow.{Bor}
use Rattle.jhash.specs.Outcome.{value, refusal}
use Rattle.image.proofs.NameEnds.{length_names}
use Rattle.image.specs.declared.packed.PackedNames.{PackedNames}
use Rattle.batch.specs.RoundNames.{names, invalid_ends}
use Rattle.batch.specs.Round.{round_words, round_buckets}
use Rattle.batch.proofs.RoundAnswers.{outcome_by, left}
use Rattle.batch.proofs.round.Goals as goal

-- the ends that names were made of are valid
valid : {bytes ends : Bor (List ℕ)} (p : PackedNames) → p.bytes ≡ bytes → p.ends ≡ ends → invalid_ends (length bytes.now) 0 ends.now ≡ false
valid p e f = sym (λ i. invalid_ends (length (e i).now) 0 (f i).now) ∙ p.ends_rise

pub returns-then-n-gt-MOST_NAMES : goal.returns-then-n-gt-MOST_NAMES
returns-then-n-gt-MOST_NAMES c =
    let a = c.args in
    let e = outcome_by a.image.now a.bytes.now a.ends.now (length a.answers.now / 4) true _ _
    (lt-ltb 512 (length a.ends.now) c.if-n-gt-MOST_NAMES.true) refl refl in
    record { answer = e; leaves = left a.image.now a.bytes.now a.ends.now a.answers.now (refusal 14) e }

pub returns-in_default : goal.returns-in_default
returns-in_default c =
    let a = c.args in
    let e = outcome_by a.image.now a.bytes.now a.ends.now (length a.answers.now / 4) false true _
    (le-ltb 512 (length a.ends.now) c.if-n-gt-MOST_NAMES.false) c.in_default.ensures refl in
    record { answer = e; leaves = left a.image.now a.bytes.now a.ends.now a.answers.now (refusal 14) e }

pub returns-then-answers-n : goal.returns-then-answers-n
returns-then-answers-n c =
    let a = c.args in
    let places = length a.answers.now / 4 in
    let e = outcome_by a.image.now a.bytes.now a.ends.now places false false true
    (le-ltb 512 (length a.ends.now) c.if-n-gt-MOST_NAMES.false) (valid c.in-Some.packed c.in-Some.ensures.0 c.in-Some.ensures.1)
    (lt-ltb places (length a.ends.now) c.if-answers-n.true) in
    record { answer = e; leaves = left a.image.now a.bytes.now a.ends.now a.answers.now (refusal 15) e }

pub answer_all-requires : goal.answer_all-requires
answer_all-requires c =
    let size : length c.in-Some.packed.ends.now ≡ length c.args.ends.now = ap (λ (b : Bor (List ℕ)). length b.now) c.in-Some.ensures.1 in
    record {
      few = omega (arith, c.if-n-gt-MOST_NAMES.false);
      places = simp length-take (omega (arith, c.if-answers-n.false));
    }

pub returns : goal.returns
returns c =
    let a = c.args in
    let p = c.in-Some.packed in
    let xs = names a.bytes.now a.ends.now in
    let same_names : names p.bytes.now p.ends.now ≡ xs = λ i. names (c.in-Some.ensures.0 i).now (c.in-Some.ensures.1 i).now in
    let places = length a.answers.now / 4 in
    let e = outcome_by a.image.now a.bytes.now a.ends.now places false false false
    (le-ltb 512 (length a.ends.now) c.if-n-gt-MOST_NAMES.false) (valid p c.in-Some.ensures.0 c.in-Some.ensures.1)
    (le-ltb places (length a.ends.now) c.if-answers-n.false) in
    record {
      answer = ap value (c.answer_all.ensures.count ∙ ap (round_buckets a.image.now) same_names) ∙ e;
      leaves = ap (λ (l : List ℕ). l ++ drop (4 * length a.ends.now) a.answers.now) (c.answer_all.ensures.stored ∙ ap (round_words a.image.now) same_names)
          ∙ ap (λ (k : ℕ). round_words a.image.now xs ++ drop (4 * k) a.answers.now) (sym (length_names a.bytes.now a.ends.now))
          ∙ left a.image.now a.bytes.now a.ends.now a.answers.now (value (round_buckets a.image.now xs)) e;
    }
