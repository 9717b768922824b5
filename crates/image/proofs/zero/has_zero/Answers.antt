-- `image::zero::has_zero` meets its contract. The loop's invariant: what is left has a zero byte exactly where the name has. Assumes nothing.
use Rattle.std.proofs.Common.{◌+◌, ◌-◌, length, sym, ◌∙◌, arith}
use Rattle.image.proofs.Bools.{or_false_first, or_false_second}
use Rattle.image.proofs.Zeros.{zero_at_an_end, none_in_first, zero_in_front, none_in_front, none_at_last}
use Rattle.image.proofs.zero.has_zero.Goals as goal

pub returns-then-name-lt8 : goal.returns-then-name-lt8
returns-then-name-lt8 c = c.zero_in_short.ensures

pub returns-then-zero_in_eight : goal.returns-then-zero_in_eight
returns-then-zero_in_eight c =
    let name = c.args.name.now in
    let first = c.zero_in_eight in
    let last = c.zero_in_eight-2 in
    zero_at_an_end name 8 (length name - 8) first.result last.result first.ensures last.ensures c.if-zero_in_eight.true

pub loop-i-init : goal.loop-i-init
loop-i-init c =
    let name = c.args.name.now in
    let first = c.zero_in_eight in
    let last = c.zero_in_eight-2 in
    let none = sym first.ensures ∙ or_false_first first.result last.result c.if-zero_in_eight.false in
    record { inside = omega arith; rest = none_in_first name 8 none }

pub returns-then-zero_in_eight-2 : goal.returns-then-zero_in_eight-2
returns-then-zero_in_eight-2 c =
    let name = c.args.name.now in
    let eight = sym c.zero_in_eight-in-loop-i.ensures ∙ c.if-zero_in_eight-2.true in
    sym (zero_in_front name c.loop-i.i 8 eight) ∙ c.loop-i.invariant.rest

pub loop-i-smaller : goal.loop-i-smaller
loop-i-smaller c = omega arith

pub loop-i-preserved : goal.loop-i-preserved
loop-i-preserved c =
    let name = c.args.name.now in
    let eight = sym c.zero_in_eight-in-loop-i.ensures ∙ c.if-zero_in_eight-2.false in
    record { inside = omega arith; rest = sym (none_in_front name c.loop-i.i 8 eight) ∙ c.loop-i.invariant.rest }

pub returns-else-zero_in_eight : goal.returns-else-zero_in_eight
returns-else-zero_in_eight c =
    let first = c.zero_in_eight in
    let last = c.zero_in_eight-2 in
    let none = sym last.ensures ∙ or_false_second first.result last.result c.if-zero_in_eight.false in
    none_at_last c.args.name.now c.loop-i.i (omega arith) (omega arith) none c.loop-i.invariant.rest

pub returns-else-zero_in_eight-2 : goal.returns-else-zero_in_eight-2
returns-else-zero_in_eight-2 c =
    let name = c.args.name.now in
    let first = c.zero_in_eight in
    let last = c.zero_in_eight-2 in
    let none = sym last.ensures ∙ or_false_second first.result last.result c.if-zero_in_eight.false in
    let eight = sym c.zero_in_eight-in-loop-i.ensures ∙ c.if-zero_in_eight-2.false in
    none_at_last name (c.loop-i.i + 8) (omega arith) (omega arith) none
    (sym (none_in_front name c.loop-i.i 8 eight) ∙ c.loop-i.invariant.rest)
