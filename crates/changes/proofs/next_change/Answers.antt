-- `changes::next_change` meets its contract. Assumes nothing.
use Rattle.std.proofs.Common.{rules, arith, ◌≡◌, ◌≤◌, ℕ, true, false, ap, ◌∙◌}
use Rattle.std.specs.Prelude.{Some, None, Result, Ok, Err}
use Rattle.std.specs.Result.{OkIff, result_ok}
use Rattle.std.proofs.lemmas.Iterator.{first_from_Range}
use Rattle.changes.specs.Changes.{upper, differs}
use Rattle.changes.specs.Cases.{change_of}
use Rattle.changes.proofs.Search.{Looked, answers_change, answers_none, answers_none_above}
use Rattle.changes.proofs.next_change.Goals as goal

-- a number that a word holds is converted to itself, another is refused
converted : {E : Type 0} (r : Result ℕ E) (P : Type 0) (v x : ℕ) → OkIff r P v → Some x ≡ result_ok r → x ≡ v
converted (Ok y) P v x o e = cc
converted (Err d) P v x o e = cc

too_large : {E : Type 0} (r : Result ℕ E) (P : Type 0) (v : ℕ) → OkIff r P v → None ≡ result_ok r → P → ⊥
too_large (Ok y) P v o e = cc
too_large (Err d) P v o e = o

pub returns-in_err-first : goal.returns-in_err-first
returns-in_err-first c =
    let a = c.args in
    let large = too_large _ _ _ c.try_from.ensures c.in_err-first.ensures.value in
    let above : upper a.old.now a.new.now ≤ a.from = omega (arith, large, c.upper-end.ensures) in
    ap change_of c.from_residual.ensures ∙ answers_none_above a.old.now a.new.now a.from above

pub returns-in_err-id : goal.returns-in_err-id
returns-in_err-id c =
    let a = c.args in
    let looked : Looked a.old.now a.new.now c.in_ok-first.first c.upper-end.result c.find.result =
    first_from_Range _ _ _ _ (λ i. differs a.old.now a.new.now i ≡ true) (λ i. differs a.old.now a.new.now i ≡ false) c.find.ensures.ran
    (λ x q h. search rules) (λ x q h. (search rules, search rules)) in
    let e = converted _ _ _ _ c.try_from.ensures c.in_ok-first.ensures.value in
    ap change_of c.from_residual-in_err-id.ensures
    ∙ answers_none a.old.now a.new.now a.from _ _ (rw e at looked) c.upper-end.ensures c.in_err-id.was

pub returns : goal.returns
returns c =
    let a = c.args in
    let looked : Looked a.old.now a.new.now c.in_ok-first.first c.upper-end.result c.find.result =
    first_from_Range _ _ _ _ (λ i. differs a.old.now a.new.now i ≡ true) (λ i. differs a.old.now a.new.now i ≡ false) c.find.ensures.ran
    (λ x q h. search rules) (λ x q h. (search rules, search rules)) in
    let e = converted _ _ _ _ c.try_from.ensures c.in_ok-first.ensures.value in
    answers_change a.old.now a.new.now a.from _ _ _ _ _ (rw e at looked) c.upper-end.ensures c.in_ok-id.was c.to_str.ensures c.to_str-2.ensures
