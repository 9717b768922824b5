-- The walk over the earlier entries: what it gives in each case, in the order of its checks, and what put makes of it. Assumes
-- nothing.
use Prim.Native.Nat.{ℕ}
use mathlib.Core.Path.{◌≡◌, refl, sym, ap, ◌∙◌}
use mathlib.Core.Bool.{Bool, true, false, cond, not, ◌&&◌}
use mathlib.Core.List.{List}
use lib.ListN.{length, replicate}
use lib.Dec.{eqb}
use borrow.Author.Tests.{eq-eqb, ne_eqb}
use Rattle.std.proofs.Common.{Result, Ok, Err}
use Rattle.jhash.specs.declared.refusals.Refusal.{Refusal}
use Rattle.jhash.specs.Outcome.{Outcome, value, refusal, outcome_of, refusal_of}
use Rattle.jhash.specs.Refusals.{number_of}
use Rattle.image.specs.Image.{back_size, back_in, contains_name}
use Rattle.image.specs.Stored.{whole}
use Rattle.image.specs.Tally.{tallied}
use Rattle.image.proofs.Bools.{and3_first_fails, and3_second_fails, and3_third}
use Rattle.writer.specs.declared.CQDBWriter.{CQDBWriter}
use Rattle.writer.specs.declared.Repeats.TheVariants.{Off, On}
use Rattle.writer.specs.State.{State, state_with, refuses_repeats, counts_agree}
use Rattle.writer.specs.Close.{entry_area, recorded, consistent}
use Rattle.writer.specs.Steps.Earlier.{walking, walk_refusal, earlier_refusal}
use Rattle.writer.proofs.Agree.{same_agree, other_differ}

-- ---- the walk

-- what put makes of what the walk gives
abbrev pub due : Result Bool Refusal → ℕ
due (Ok b) = cond b 16 0
due (Err k) = number_of k

module _ (s : State) (name : List ℕ) where
  fails : false ≡ consistent s → ◌≡◌ {A = Outcome Bool} (refusal 4) (walking s name)
  unfolding walking
  fails h = rw (sym h) refl

  -- close asks no more than whether the walk is refused
  pub consistent_by : (r : Result Bool Refusal) → outcome_of r ≡ walking s name → refusal_of r ≡ cond (consistent s) 0 4
  unfolding walking
  consistent_by r e = by_test r (consistent s) e
    where
      by_test : (r : Result Bool Refusal) (t : Bool) → outcome_of r ≡ cond t (value (contains_name name (recorded s))) (refusal 4)
          → refusal_of r ≡ cond t 0 4
      by_test (Ok b) true e = refl
      by_test (Ok b) false e = cc
      by_test (Err k) true e = cc
      by_test (Err k) false e = cc

  -- put refuses where it meets the name too
  pub walk_by : (r : Result Bool Refusal) → outcome_of r ≡ walking s name → due r ≡ walk_refusal s name
  unfolding walking walk_refusal
  walk_by r e = by_test r (consistent s) e
    where
      by_test : (r : Result Bool Refusal) (t : Bool) → outcome_of r ≡ cond t (value (contains_name name (recorded s))) (refusal 4)
          → due r ≡ cond (not t) 4 (cond (contains_name name (recorded s)) 16 0)
      by_test (Ok b) true e = let same : b ≡ contains_name name (recorded s) = cc in ap (λ (t : Bool). cond t 16 0) same
      by_test (Ok b) false e = cc
      by_test (Err k) true e = cc
      by_test (Err k) false e = cc

-- w and these bytes: tally has the counts of their entries, k is their back size, m says whether one has the name
module _ (w : CQDBWriter) (counts buf name : List ℕ) where
  abbrev s : State
  s = state_with w counts buf

  abbrev backs : Bool
  backs = eqb w.back (back_in w.mode (back_size (recorded s)))

  pub not_whole : whole w.entries (entry_area (state_with w counts buf)) ≡ false → ◌≡◌ {A = Outcome Bool} (refusal 4) (walking (state_with w counts buf) name)
  not_whole no_more = fails s name (and3_first_fails (whole w.entries (entry_area s)) (counts_agree counts (recorded s)) backs no_more)

  module _ (is_whole : whole w.entries (entry_area (state_with w counts buf)) ≡ true) (tally : List ℕ)
      (tells : tally ≡ tallied (replicate 256 0) (recorded (state_with w counts buf))) (table : length counts ≡ 256) where
    pub other_counts : (counts ≡ tally → ⊥) → ◌≡◌ {A = Outcome Bool} (refusal 4) (walking (state_with w counts buf) name)
    other_counts differ =
        fails s name
        (and3_second_fails (whole w.entries (entry_area s)) (counts_agree counts (recorded s)) backs is_whole
        (other_differ counts (recorded s) tally tells table differ))

    module _ (equal : counts ≡ tally) (k n : ℕ) (is-back : k ≡ back_size (recorded s)) (is-in : n ≡ back_in w.mode k) where
      by_back : (x : Bool) → x ≡ eqb w.back n → x ≡ consistent s
      by_back x e =
          and3_third (whole w.entries (entry_area s)) (counts_agree counts (recorded s)) backs x is_whole
          (same_agree counts (recorded s) (equal ∙ tells))
          (e ∙ ap (eqb w.back) (is-in ∙ ap (back_in w.mode) is-back))

      pub other_back : (w.back ≡ n → ⊥) → ◌≡◌ {A = Outcome Bool} (refusal 4) (walking (state_with w counts buf) name)
      other_back differ = fails s name (by_back false (sym (ne_eqb w.back n differ)))

      pub by_name : w.back ≡ n → (m : Bool) → m ≡ contains_name name (recorded s) → value m ≡ walking (state_with w counts buf) name
      unfolding walking
      by_name equal m met =
          let all = by_back true (sym (eq-eqb w.back n equal)) in
          rw (sym all, sym met) refl

-- ---- with repeats on there is no walk, and with repeats off it decides

pub not_walked : (s : State) (name : List ℕ) → s.writer.repeats ≡ On → 0 ≡ earlier_refusal s name
unfolding earlier_refusal
not_walked s name on = rw on refl

pub walk_due : (s : State) (name : List ℕ) → s.writer.repeats ≡ Off → (r : Result Bool Refusal) → outcome_of r ≡ walking s name
    → due r ≡ earlier_refusal s name
unfolding earlier_refusal
walk_due s name off r e = rw off (walk_by s name r e)

-- ---- in put's order

-- what the rule says of the earlier entries before it goes on is the one number, and it goes on where that is 0
pub in_order : (s : State) (name : List ℕ) (rest : ℕ)
    → cond (not (consistent s) && refuses_repeats s.writer.repeats) 4 (cond (contains_name name (recorded s) && refuses_repeats s.writer.repeats) 16 rest)
    ≡ cond (eqb (earlier_refusal s name) 0) rest (earlier_refusal s name)
unfolding earlier_refusal
in_order s name rest = same_number (consistent s) (contains_name name (recorded s)) (refuses_repeats s.writer.repeats)
  where
    number : Bool → Bool → Bool → ℕ
    number a h r = cond r (cond (not a) 4 (cond h 16 0)) 0

    same_number : (a h r : Bool) → cond (not a && r) 4 (cond (h && r) 16 rest) ≡ cond (eqb (number a h r) 0) rest (number a h r)
    same_number true true true = refl
    same_number true true false = refl
    same_number true false true = refl
    same_number true false false = refl
    same_number false true true = refl
    same_number false true false = refl
    same_number false false true = refl
    same_number false false false = refl
