-- `build_c::build_numbered` meets its contract: what `build` promises, where mode and repeats are known numbers. Assumes nothing.
use Rattle.std.proofs.Common.{◌≡◌, ℕ, Bool, length, sym, ap, ap₂, ◌∙◌, rules}
use mathlib.Core.Bool.{◌&&◌, true, false}
use lib.Dec.{leb}
use Rattle.std.proofs.lemmas.Result.{err_from_is_err_and}
use Rattle.jhash.specs.Outcome.{refusal, outcome_of}
use Rattle.writer.specs.Numbers.{valid_numbers}
use Rattle.build_c.specs.Building.{built_answer, build_answer, BufferLeft, answers_built}
use Rattle.build_c.proofs.Builds.{read_unknown, read_known, refusal_due, unknown_build, known_build}
use Rattle.build_c.proofs.build_numbered.Goals.{In_err-image_mode, In_err-choice, After-build}
use Rattle.build_c.proofs.build_numbered.Goals as goal

no_mode : (c : In_err-image_mode) → valid_numbers c.args.mode c.args.repeats ≡ false
no_mode c = ap (λ (b : Bool). b && leb c.args.repeats 1) (read_unknown (leb c.args.mode 1) _ c.in_err-image_mode.ensures).0

no_choice : (c : In_err-choice) → valid_numbers c.args.mode c.args.repeats ≡ false
no_choice c =
    ap₂ (λ (a b : Bool). a && b) (read_known (leb c.args.mode 1) c.in_ok-image_mode.ensures).0
    (read_unknown (leb c.args.repeats 1) _ c.in_err-choice.ensures).0

told : (c : After-build) → let a = c.args in let places = length a.refusals.now in
    (built_answer (outcome_of c.build.result) ≡ build_answer a.mode a.repeats a.buf.now a.names.now a.ends.now a.ids.now places)
    × BufferLeft a.mode a.repeats a.buf.now a.names.now a.ends.now a.ids.now places c.build.new.buf
    × (c.build.new.refusals ≡ answers_built a.mode a.repeats a.buf.now a.names.now a.ends.now a.ids.now a.refusals.now)
told c =
    let a = c.args in
    let m = read_known (leb a.mode 1) c.in_ok-image_mode.ensures in
    let r = read_known (leb a.repeats 1) c.in_ok-choice.ensures in
    let mode = m.1 in
    let p = c.build.ensures in
    known_build a.mode a.repeats a.buf.now a.names.now a.ends.now a.ids.now a.refusals.now (ap₂ (λ (x y : Bool). x && y) m.0 r.0)
    _ c.in_ok-choice.choice (search (mode, rules)) r.1 (outcome_of c.build.result) _ _ p.answer p.leaves p.answers

pub returns-in_err-image_mode-clause-answer : goal.returns-in_err-image_mode-clause-answer
returns-in_err-image_mode-clause-answer c =
    let a = c.args in
    let p = err_from_is_err_and c.from_residual.result c.from_residual.ensures.1 in
    let none = no_mode (goal.at.returns-in_err-image_mode-clause-answer c).In_err-image_mode in
    rw (p.1, p.2)
    (ap (λ (k : ℕ). built_answer (refusal k)) (read_unknown (leb a.mode 1) _ c.in_err-image_mode.ensures).1
    ∙ (unknown_build a.mode a.repeats a.buf.now a.names.now a.ends.now a.ids.now a.refusals.now none).0)

pub returns-in_err-image_mode-clause-leaves : goal.returns-in_err-image_mode-clause-leaves
returns-in_err-image_mode-clause-leaves c =
    let a = c.args in
    (unknown_build a.mode a.repeats a.buf.now a.names.now a.ends.now a.ids.now a.refusals.now
    (no_mode (goal.at.returns-in_err-image_mode-clause-leaves c).In_err-image_mode)).1

pub returns-in_err-image_mode-clause-answers : goal.returns-in_err-image_mode-clause-answers
returns-in_err-image_mode-clause-answers c =
    let a = c.args in
    (unknown_build a.mode a.repeats a.buf.now a.names.now a.ends.now a.ids.now a.refusals.now
    (no_mode (goal.at.returns-in_err-image_mode-clause-answers c).In_err-image_mode)).2

pub returns-in_err-choice-clause-answer : goal.returns-in_err-choice-clause-answer
returns-in_err-choice-clause-answer c =
    let a = c.args in
    let p = err_from_is_err_and c.from_residual-in_err-choice.result c.from_residual-in_err-choice.ensures.1 in
    let none = no_choice (goal.at.returns-in_err-choice-clause-answer c).In_err-choice in
    rw (p.1, p.2)
    (ap (λ (k : ℕ). built_answer (refusal k)) (read_unknown (leb a.repeats 1) _ c.in_err-choice.ensures).1
    ∙ (unknown_build a.mode a.repeats a.buf.now a.names.now a.ends.now a.ids.now a.refusals.now none).0)

pub returns-in_err-choice-clause-leaves : goal.returns-in_err-choice-clause-leaves
returns-in_err-choice-clause-leaves c =
    let a = c.args in
    (unknown_build a.mode a.repeats a.buf.now a.names.now a.ends.now a.ids.now a.refusals.now
    (no_choice (goal.at.returns-in_err-choice-clause-leaves c).In_err-choice)).1

pub returns-in_err-choice-clause-answers : goal.returns-in_err-choice-clause-answers
returns-in_err-choice-clause-answers c =
    let a = c.args in
    (unknown_build a.mode a.repeats a.buf.now a.names.now a.ends.now a.ids.now a.refusals.now
    (no_choice (goal.at.returns-in_err-choice-clause-answers c).In_err-choice)).2

pub returns-clause-answer : goal.returns-clause-answer
returns-clause-answer c = (told (goal.at.returns-clause-answer c).After-build).0

pub returns-clause-leaves : goal.returns-clause-leaves
returns-clause-leaves c = (told (goal.at.returns-clause-leaves c).After-build).1

pub returns-clause-answers : goal.returns-clause-answers
returns-clause-answers c = (told (goal.at.returns-clause-answers c).After-build).2

pub returns-clause-untouched : goal.returns-clause-untouched
returns-clause-untouched c = λ some.
    let a = c.args in
    c.build.ensures.untouched
    (refusal_due _ c.in_ok-choice.choice a.buf.now a.names.now a.ends.now a.ids.now (length a.refusals.now)
    c.build.result c.build.ensures.answer some)
