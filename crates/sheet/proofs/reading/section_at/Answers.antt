-- `sheet::reading::section_at` meets its contract. Assumes nothing.
use Prim.Native.Nat.{ℕ, ◌+◌}
use native.Mathlib.Omega.{arith}
use mathlib.Core.Path.{sym, ap, ◌∙◌}
use Rattle.jhash.specs.Outcome.{value}
use Rattle.sheet.proofs.Sections.{no_count, no_ids, lies}
use Rattle.sheet.proofs.reading.section_at.Goals as goal

pub returns-then-left-lt2 : goal.returns-then-left-lt2
returns-then-left-lt2 c =
    let a = c.args in
    sym (no_count a.file.now a.at (omega arith))

pub returns-then-left-count : goal.returns-then-left-count
returns-then-left-count c =
    let a = c.args in
    sym (no_ids a.file.now a.at (omega arith) (omega (arith, c.count_at-count.ensures)))

pub returns : goal.returns
returns c =
    let a = c.args in
    let n = c.count_at-count in
    ap (λ (k : ℕ). value (record { start = a.at + 2; count = k })) n.ensures.count
    ∙ sym (lies a.file.now a.at (omega (arith, n.ensures)))
