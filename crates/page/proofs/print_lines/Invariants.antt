-- `page::print_lines` meets its contract. The loop's invariant: with the lines that are left, the output is as the contract says.
use Rattle.std.proofs.Common.{◌≡◌, ◌+◌, ◌*◌, ◌-◌}
use Rattle.std.proofs.lemmas.List.Edits.{sets}
use Rattle.reader.specs.Naming.{name_given}
use Rattle.page.specs.Page.{lines}
use Rattle.page.proofs.print_lines.Given as goal

abbrev pub invariant-loop-i : goal.invariant-loop-i
invariant-loop-i l =
    sets l.out (45 * l.i) (lines (name_given l.image) (l.first + l.i) (l.count - l.i))
    ≡ sets l.initial.out 0 (lines (name_given l.image) l.first l.count)
