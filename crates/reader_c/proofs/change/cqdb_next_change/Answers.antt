-- `reader_c::change::cqdb_next_change` meets its contract. The lengths fit their 32 bits. Assumes nothing.
use Rattle.std.proofs.Common.{ℕ, arith}
use Rattle.reader.specs.Cases.{naming_of}
use Rattle.reader_c.proofs.ShortNames.{ShortNames, change_short}
use Rattle.reader_c.proofs.change.cqdb_next_change.Goals.{In-Some}
use Rattle.reader_c.proofs.change.cqdb_next_change.Goals as goal

-- both namings of the id that was found
short_here : (c : In-Some) → ShortNames (naming_of c.in-Some.change.before) (naming_of c.in-Some.change.after)
short_here c =
    let a = c.args in
    let found = c.in-Some.change in
    change_short a.old.now a.new.now (λ (i : ℕ). omega (arith, (c.type_inv.old i).fits)) (λ (i : ℕ). omega (arith, (c.type_inv.new i).fits))
    a.from found.id (naming_of found.before) (naming_of found.after) c.in-Some.ensures

pub name_answer-requires : goal.name_answer-requires
name_answer-requires c =
    let short = short_here (goal.at.name_answer-requires c).In-Some in
    let before = short.before_short in
    let after = short.after_short in
    search (before, after)

pub name_answer-requires-in-Some : goal.name_answer-requires-in-Some
name_answer-requires-in-Some c =
    let short = short_here (goal.at.name_answer-requires-in-Some c).In-Some in
    let before = short.before_short in
    let after = short.after_short in
    search (before, after)
