-- `reader_c::layout::cqdb_entry` meets its contract. Assumes nothing.
use Prim.Native.Nat.{◌+◌, ◌-◌}
use native.Mathlib.Omega.{arith}
use mathlib.Core.Path.{refl, sym, ◌∙◌}
use mathlib.Core.Bool.{true, false}
use borrow.Author.Tests.{eq-eqb, ne_eqb}
use Rattle.image.proofs.Unbroken.{unbroken}
use Rattle.reader_c.proofs.Places.{entry_by}
use Rattle.reader_c.proofs.layout.cqdb_entry.Goals as goal

pub returns-then-offset-eq0 : goal.returns-then-offset-eq0
returns-then-offset-eq0 c =
    let a = c.args in
    c.no_entry.ensures ∙ entry_by a.image.now a.offset true _ (eq-eqb a.offset 0 c.if-offset-eq0.true) refl

pub returns-then-broken : goal.returns-then-broken
returns-then-broken c =
    let a = c.args in
    c.no_entry-then-broken.ensures
    ∙ entry_by a.image.now a.offset false true (ne_eqb a.offset 0 c.if-offset-eq0.false) (sym c.broken.ensures ∙ c.if-broken.true)

pub word-requires : goal.word-requires
word-requires c =
    let a = c.args in
    omega (arith, unbroken a.image.now a.offset (sym c.broken.ensures ∙ c.if-broken.false))

pub word-requires-2 : goal.word-requires-2
word-requires-2 c =
    let a = c.args in
    omega (arith, unbroken a.image.now a.offset (sym c.broken.ensures ∙ c.if-broken.false))

pub overflow_sub-result : goal.overflow_sub-result
overflow_sub-result c =
    let a = c.args in
    omega (arith, unbroken a.image.now a.offset (sym c.broken.ensures ∙ c.if-broken.false), c.word-2.ensures)

pub returns : goal.returns
returns c =
    let a = c.args in
    (λ i. record { found = 1; id = c.word.ensures i; len = c.word-2.ensures i - 1; start = a.offset + 8 })
    ∙ entry_by a.image.now a.offset false false (ne_eqb a.offset 0 c.if-offset-eq0.false)
    (sym c.broken.ensures ∙ c.if-broken.false)
