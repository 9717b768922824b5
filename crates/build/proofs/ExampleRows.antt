-- The worked examples of a whole list hold, computed by the checker. Assumes nothing.
use Prim.Native.Nat.{ℕ, ◌≤◌}
use native.Mathlib.Omega.{arith}
use mathlib.Core.Path.{◌≡◌, refl, ap, ap₂, ◌∙◌}
use mathlib.Core.Bool.{cond}
use mathlib.Core.List.{List, [], ◌++◌, append-nil}
use lib.ListN.{length, drop, drop_of_length-le}
use lib.Dec.{ltb, lit≤}
use Rattle.jhash.specs.Outcome.{Outcome, value, refusal}
use Rattle.image.specs.Bytes.{same}
use Rattle.image.specs.Image.{head_size, back_size, contains_name}
use Rattle.image.specs.declared.Mode.TheVariants.{Twoway}
use Rattle.image.specs.Zero.{has_zero}
use Rattle.image.proofs.AllOfList.{All, all_map}
use Rattle.image.specs.PackedNames.{names, names_from, invalid_ends}
use Rattle.writer.specs.Close.{closed_size}
use Rattle.lists.specs.Calls.{Call, accepted_from, due_from, accepted, due, put_due, puts_size, size_of, WordIds}
use Rattle.lists.specs.Demand3.{answers_of, after_list, accepted_puts}
use Rattle.lists.proofs.Theorem.{calls_answered}
use Rattle.build.specs.declared.Made.{Made}
use Rattle.build.specs.Build.{calls_of, listed, build_refusal, made_of, building, answers_after}
use Rattle.build.specs.Examples.Rows.{Row, BuildRowHolds, build_rows}

abbrev calls : Row → List Call
calls r = listed r.bytes r.ends r.ids

-- what is computed of a row, from the calls and the buffer's length alone
abbrev Computed : Row → Type 0
Computed r =
    (head_size ≤ r.room)
    × (build_refusal r.bytes r.ends (length r.ids) (length r.ends) r.room ≡ 0)
    × WordIds Twoway (calls r)
    × (due Twoway r.repeats r.room (calls r) ≡ r.refusals)
    × (size_of Twoway (accepted Twoway r.repeats r.room (calls r)) ≡ r.made.size)
    × (length (accepted Twoway r.repeats r.room (calls r)) ≡ r.made.accepted)

holds_in : (r : Row) → Computed r → BuildRowHolds r
unfolding building made_of answers_after
holds_in r c buffer places long many =
    let cs = calls r in
    let told = calls_answered Twoway r.repeats buffer cs (omega (arith, c.0, long)) c.2 in
    let none : build_refusal r.bytes r.ends (length r.ids) (length places) (length buffer) ≡ 0 =
    ap₂ (λ (p n : ℕ). build_refusal r.bytes r.ends (length r.ids) p n) many long ∙ c.1 in
    let taken = told.decided ∙ ap (λ (n : ℕ). accepted Twoway r.repeats n cs) long in
    let size : closed_size (after_list Twoway r.repeats buffer cs) ≡ r.made.size = told.sized ∙ ap (size_of Twoway) taken ∙ c.4 in
    let number : length (accepted_puts Twoway r.repeats buffer cs) ≡ r.made.accepted = ap length taken ∙ c.5 in
    let answers : answers_of Twoway r.repeats buffer cs ≡ r.refusals = told.answered ∙ ap (λ (n : ℕ). due Twoway r.repeats n cs) long ∙ c.3 in
    let behind : drop (length r.ends) places ≡ [] = drop_of_length-le places {i = length r.ends} (omega (arith, many)) in (
      ap (λ (k : ℕ). cond (ltb 0 k) (refusal k) (value (made_of Twoway r.repeats buffer cs))) none
          ∙ ap₂ {C = Outcome Made} (λ (x y : ℕ). value (record { size = x; accepted = y })) size number,
      ap (λ (k : ℕ). cond (ltb 0 k) places (answers_of Twoway r.repeats buffer cs ++ drop (length r.ends) places)) none
          ∙ ap₂ {C = List ℕ} (λ (x y : List ℕ). x ++ y) answers behind
          ∙ append-nil r.refusals,
    )

computed : All Computed build_rows
unfolding accepted accepted_from due due_from put_due has_zero contains_name same size_of puts_size back_size names names_from
    invalid_ends calls_of build_refusal
computed = (
  (lit≤ tt, refl, (tt, (tt, (tt, (tt, tt)))), refl, refl, refl),
  (
    (lit≤ tt, refl, (tt, (tt, (tt, (tt, tt)))), refl, refl, refl),
    ((lit≤ tt, refl, (tt, (tt, tt)), refl, refl, refl), ((lit≤ tt, refl, (tt, (tt, (tt, tt))), refl, refl, refl), tt)),
  ),
)

pub rows_hold : All BuildRowHolds build_rows
rows_hold = all_map holds_in build_rows computed
