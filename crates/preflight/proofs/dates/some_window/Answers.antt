-- `preflight::dates::some_window` meets its contract. Assumes nothing.
use Rattle.std.proofs.Common.{arith, sym, ap, ◌∙◌}
use Rattle.preflight.proofs.Windows.{some_start, some_turn, some_end}
use Rattle.preflight.proofs.dates.some_window.Goals as goal

pub loop-i-init : goal.loop-i-init
loop-i-init g c = λ t h. some_start t _

pub returns-then-test : goal.returns-then-test
returns-then-test g c =
    λ t h.
    some_turn t _ _ _ _ c.loop-i-test.true (sym (ap t c.window_at.ensures) ∙ sym (h _ _ c.test.ensures) ∙ c.if-test.true)
    ∙ c.loop-i.invariant t h

pub loop-i-preserved : goal.loop-i-preserved
loop-i-preserved g c =
    λ t h.
    some_turn t _ _ _ _ c.loop-i-test.true (sym (ap t c.window_at.ensures) ∙ sym (h _ _ c.test.ensures) ∙ c.if-test.false)
    ∙ c.loop-i.invariant t h

pub returns : goal.returns
returns g c = λ t h. sym (some_end t _ _ _ c.loop-i-test.false) ∙ c.loop-i.invariant t h
