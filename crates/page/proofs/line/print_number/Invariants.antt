-- `page::line::print_number` meets its contract. The loop's invariant: with the places that are left, the output is as after the
-- loop.
use Rattle.std.proofs.Common.{◌≡◌, ◌-◌, ◌/◌}
use Rattle.std.proofs.lemmas.List.Edits.{sets}
use Rattle.page.specs.Page.{places}
use Rattle.page.proofs.line.print_number.Given as goal

abbrev pub invariant-loop-i : goal.invariant-loop-i
invariant-loop-i l = sets l.out l.at (places (9 - l.i) l.n) ≡ sets l.initial.out l.at (places 9 (l.id / 10))
