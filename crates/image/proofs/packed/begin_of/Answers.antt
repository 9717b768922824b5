-- `image::packed::begin_of` meets its contract. Assumes nothing.
use Rattle.std.proofs.Common.{◌-◌, Bool, cond, get_or, sym, ap, eq-eqb, ne_eqb}
use Rattle.image.proofs.packed.begin_of.Goals as goal

pub returns-then-i-eq0 : goal.returns-then-i-eq0
returns-then-i-eq0 c =
    let a = c.args in
    sym (ap (λ (t : Bool). cond t 0 (get_or a.ends.now (a.i - 1) 0)) (eq-eqb a.i 0 c.if-i-eq0.true))

pub returns-else-i-eq0 : goal.returns-else-i-eq0
returns-else-i-eq0 c =
    let a = c.args in
    sym (ap (λ (t : Bool). cond t 0 (get_or a.ends.now (a.i - 1) 0)) (ne_eqb a.i 0 c.if-i-eq0.false))
