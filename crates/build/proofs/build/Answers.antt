-- `build::build` meets its contract. Assumes nothing.
use Rattle.std.proofs.Common.{◌≡◌, ℕ, List, length, refl, sym, ◌∙◌, arith}
use mathlib.Core.Path.{subst}
use mathlib.Core.Bool.{false}
use Rattle.image.specs.PackedNames.{invalid_ends}
use Rattle.image.specs.declared.Mode.{Mode}
use Rattle.writer.specs.declared.Repeats.{Repeats}
use Rattle.build.specs.declared.Made.{Made}
use Rattle.build.specs.Build.{made_of}
use Rattle.build.specs.Steps.Steps.{ListBuilt}
use Rattle.build.proofs.Whole.{refusal_14, refusal_15, refusal_15_places, refusal_1, refusal_none, refused_build}
use Rattle.build.proofs.build.Goals.{In-Some}
use Rattle.build.proofs.build.Goals as goal

-- the ends are in order
straight : (c : In-Some) → let a = c.args in invalid_ends (length a.bytes.now) 0 a.ends.now ≡ false
straight c = let e = c.in-Some.ensures in sym (λ i. invalid_ends (length (e.0 i).now) 0 (e.1 i).now) ∙ c.in-Some.names.ends_rise

-- what is built of the names is built of the bytes and ends that were lent
lent : (mode : Mode) (repeats : Repeats) {buffer bytes ends bytes' ends' ids refusals : List ℕ} {made : Made} {bufferThen refusalsThen : List ℕ}
    → bytes ≡ bytes' → ends ≡ ends' → ListBuilt mode repeats buffer bytes ends ids refusals made bufferThen refusalsThen
    → ListBuilt mode repeats buffer bytes' ends' ids refusals made bufferThen refusalsThen
lent mode repeats {buffer} {bytes} {ends} {bytes'} {ends'} {ids} {refusals} {made} {bufferThen} {refusalsThen} b e built =
    subst (λ (es : List ℕ). ListBuilt mode repeats buffer bytes' es ids refusals made bufferThen refusalsThen) e
    (subst (λ (bs : List ℕ). ListBuilt mode repeats buffer bs ends ids refusals made bufferThen refusalsThen) b built)

-- ---- the needs
pub returns-in_default : goal.returns-in_default
returns-in_default c =
    let a = c.args in
    let told = refusal_14 _ _ _ _ _ c.in_default.ensures in
    let out = refused_build a.mode a.repeats a.buf.now a.bytes.now a.ends.now a.ids.now a.refusals.now 14 told (omega arith) in
    record { answer = out.0; leaves = out.1.0; answers = out.1.1; untouched = λ h. refl }

pub returns-then-ids-n : goal.returns-then-ids-n
returns-then-ids-n c =
    let a = c.args in
    let told = refusal_15 _ _ _ _ _ (straight (goal.at.returns-then-ids-n c).In-Some) c.if-ids-n.true in
    let out = refused_build a.mode a.repeats a.buf.now a.bytes.now a.ends.now a.ids.now a.refusals.now 15 told (omega arith) in
    record { answer = out.0; leaves = out.1.0; answers = out.1.1; untouched = λ h. refl }

pub returns-then-refusals-n : goal.returns-then-refusals-n
returns-then-refusals-n c =
    let a = c.args in
    let told = refusal_15_places _ _ _ _ _ (straight (goal.at.returns-then-refusals-n c).In-Some) c.if-ids-n.false c.if-refusals-n.true in
    let out = refused_build a.mode a.repeats a.buf.now a.bytes.now a.ends.now a.ids.now a.refusals.now 15 told (omega arith) in
    record { answer = out.0; leaves = out.1.0; answers = out.1.1; untouched = λ h. refl }

pub returns-then-buf-lt-HEAD_SIZE : goal.returns-then-buf-lt-HEAD_SIZE
returns-then-buf-lt-HEAD_SIZE c =
    let a = c.args in
    let good = straight (goal.at.returns-then-buf-lt-HEAD_SIZE c).In-Some in
    let told = refusal_1 _ _ _ _ _ good c.if-ids-n.false c.if-refusals-n.false c.if-buf-lt-HEAD_SIZE.true in
    let out = refused_build a.mode a.repeats a.buf.now a.bytes.now a.ends.now a.ids.now a.refusals.now 1 told (omega arith) in
    record { answer = out.0; leaves = out.1.0; answers = out.1.1; untouched = λ h. refl }

pub build_list-requires : goal.build_list-requires
build_list-requires c =
    let e : length c.in-Some.names.ends.now ≡ length c.args.ends.now = (λ i. length (c.in-Some.ensures.1 i).now) in
    record {
      ids_long = omega (arith, e, c.if-ids-n.false);
      refusals_long = omega (arith, e, c.if-refusals-n.false);
      head_fits = c.if-buf-lt-HEAD_SIZE.false;
    }

pub returns : goal.returns
unfolding made_of
returns c =
    let a = c.args in
    let none = refusal_none a.bytes.now a.ends.now (length a.ids.now) (length a.refusals.now) (length a.buf.now)
    (straight (goal.at.returns c).In-Some) c.if-ids-n.false c.if-refusals-n.false c.if-buf-lt-HEAD_SIZE.false in
    let e = c.in-Some.ensures in
    let out = lent a.mode a.repeats {bytes = c.in-Some.names.bytes.now} {ends = c.in-Some.names.ends.now} (λ i. (e.0 i).now) (λ i. (e.1 i).now)
    c.build_list.ensures in
    record {
      answer = out.gives;
      leaves = record { refused = λ h. absurd (omega (arith, none, h)); imaged = λ z. out.imaged; behind = λ z. out.behind };
      answers = out.answers;
      untouched = λ h. absurd (omega (arith, none, h));
    }
