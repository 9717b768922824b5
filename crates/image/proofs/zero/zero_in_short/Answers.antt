-- `image::zero::zero_in_short` meets its contract. Assumes nothing.
use Rattle.std.proofs.Common.{ℕ, ltb, length, ap, ◌∙◌, arith}
use Rattle.image.proofs.Zeros.{zero_ends, before_test}
use Rattle.image.proofs.zero.zero_in_short.Goals as goal

pub returns-then-name-lt4 : goal.returns-then-name-lt4
returns-then-name-lt4 c =
    let name = c.args.name.now in
    ap (λ (k : ℕ). ltb k (length name)) c.length_before_zero.ensures.is ∙ before_test name

pub returns : goal.returns
returns c =
    let a = c.args in
    let first = c.zero_in_four in
    let second = c.zero_in_four-2 in
    zero_ends a.name.now 4 first.result second.result (omega arith) (omega arith) first.ensures second.ensures
