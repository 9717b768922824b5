-- `page::line::show_all` meets its contract. The loop's invariant: with the bytes that are left, the output is as the contract says.
use Rattle.std.proofs.Common.{◌≡◌, ◌+◌, map, drop}
use Rattle.std.proofs.lemmas.List.Edits.{sets}
use Rattle.page.specs.Page.{shown}
use Rattle.page.proofs.line.show_all.Given as goal

abbrev pub invariant-loop-j : goal.invariant-loop-j
invariant-loop-j l = sets l.out (l.at + l.j) (drop l.j (map shown l.bytes)) ≡ sets l.initial.out l.at (map shown l.bytes)
