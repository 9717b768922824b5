-- `reader::opening::open` meets its contract. Assumes nothing.
use Rattle.std.proofs.Common.{◌≡◌, ◌%◌, ◌^◌, Bool, true, false, cond, ◌&&◌, ltb, length, sym, refl, ap, ◌∙◌, arith, le-ltb, lt-ltb, eq-eqb, ne_eqb}
use mathlib.Core.Bool.{and-false}
use Rattle.jhash.specs.Outcome.{value, refusal}
use Rattle.image.specs.Bytes.{word}
use Rattle.image.proofs.Bools.{and_both}
use Rattle.image.specs.Head.{back_offset_at, back_past_end}
use Rattle.reader.specs.Open.{num_from, opening}
use Rattle.reader.proofs.Images.{headed}
use Rattle.reader.proofs.Opens.{opening_by}
use Rattle.reader.proofs.opening.open.Goals.{Else-some_past_end}
use Rattle.reader.proofs.opening.open.Goals as goal

passed : (c : Else-some_past_end) (b : Bool)
    → (ltb 0 (back_offset_at c.in-Some.image.bytes.now) && back_past_end c.in-Some.image.bytes.now) ≡ b
    → cond b (refusal 8) (value (num_from c.in-Some.image.bytes.now 0 256 % 2 ^ 32)) ≡ opening c.args.image.now
passed c b e =
    let image = c.in-Some.image.bytes.now in
    opening_by image false true true false b (headed c.in-Some.image)
    (sym c.has_letters.ensures ∙ c.if-not-has_letters.false)
    (eq-eqb (word image 12) 0x62445371 (sym c.word.ensures ∙ c.if-word-ne-BYTEORDER_CHECK.false))
    (sym c.some_past_end.ensures ∙ c.if-some_past_end.false)
    e
    ∙ ap opening (λ i. (c.in-Some.ensures i).now)

pub returns-in_default : goal.returns-in_default
returns-in_default c =
    let image = c.args.image.now in
    opening_by image true _ _ _ _ (lt-ltb (length image) 2072 c.in_default.ensures) refl refl refl refl

pub returns-then-not-has_letters : goal.returns-then-not-has_letters
returns-then-not-has_letters c =
    let image = c.in-Some.image.bytes.now in
    opening_by image false false _ _ _ (headed c.in-Some.image)
    (sym c.has_letters.ensures ∙ c.if-not-has_letters.true) refl refl refl
    ∙ ap opening (λ i. (c.in-Some.ensures i).now)

pub returns-then-word-ne-BYTEORDER_CHECK : goal.returns-then-word-ne-BYTEORDER_CHECK
returns-then-word-ne-BYTEORDER_CHECK c =
    let image = c.in-Some.image.bytes.now in
    opening_by image false true false _ _ (headed c.in-Some.image)
    (sym c.has_letters.ensures ∙ c.if-not-has_letters.false)
    (ne_eqb (word image 12) 0x62445371 (λ e. c.if-word-ne-BYTEORDER_CHECK.true (c.word.ensures ∙ e))) refl refl
    ∙ ap opening (λ i. (c.in-Some.ensures i).now)

pub returns-then-some_past_end : goal.returns-then-some_past_end
returns-then-some_past_end c =
    let image = c.in-Some.image.bytes.now in
    opening_by image false true true true _ (headed c.in-Some.image)
    (sym c.has_letters.ensures ∙ c.if-not-has_letters.false)
    (eq-eqb (word image 12) 0x62445371 (sym c.word.ensures ∙ c.if-word-ne-BYTEORDER_CHECK.false))
    (sym c.some_past_end.ensures ∙ c.if-some_past_end.true) refl
    ∙ ap opening (λ i. (c.in-Some.ensures i).now)

pub returns-then-back_past_end : goal.returns-then-back_past_end
returns-then-back_past_end c =
    let image = c.in-Some.image.bytes.now in
    passed (goal.at.returns-then-back_past_end c).Else-some_past_end true
    (and_both (ltb 0 (word image 20)) (back_past_end image)
    (lt-ltb 0 (word image 20) (omega (arith, c.word-2.ensures)))
    (sym c.back_past_end.ensures ∙ c.if-back_past_end.true))

pub returns-else-back_past_end : goal.returns-else-back_past_end
returns-else-back_past_end c =
    let image = c.in-Some.image.bytes.now in
    ap value c.all_tables-all.ensures.num_is
    ∙ passed (goal.at.returns-else-back_past_end c).Else-some_past_end false
    (ap (λ (t : Bool). ltb 0 (word image 20) && t) (sym c.back_past_end.ensures ∙ c.if-back_past_end.false) ∙ and-false (ltb 0 (word image 20)))

pub returns-else-word-gt0 : goal.returns-else-word-gt0
returns-else-word-gt0 c =
    let image = c.in-Some.image.bytes.now in
    ap value c.all_tables-all.ensures.num_is
    ∙ passed (goal.at.returns-else-word-gt0 c).Else-some_past_end false
    (ap (λ (t : Bool). t && back_past_end image) (le-ltb 0 (word image 20) (omega (arith, c.word-2.ensures))))
