-- `changes::differs` meets its contract. By the names of the id in the two images. Assumes nothing.
use Rattle.std.proofs.Common.{ap, ◌∙◌}
use Rattle.std.specs.Prelude.{not}
use Rattle.changes.proofs.Namings.{differs_by}
use Rattle.changes.proofs.differs.Goals as goal

pub returns-in-Some-Some : goal.returns-in-Some-Some
returns-in-Some-Some c =
    ap not c.same.ensures
    ∙ differs_by _ _ _ _ _ (rw c.in-Some-Some.is-0 at c.name_given.ensures) (rw c.in-Some-Some.is-1 at c.name_given-2.ensures)

pub returns-in-None-None : goal.returns-in-None-None
returns-in-None-None c =
    differs_by _ _ _ _ _ (rw c.in-None-None.is-0 at c.name_given.ensures) (rw c.in-None-None.is-1 at c.name_given-2.ensures)

pub returns-in_default : goal.returns-in_default
returns-in_default c =
    differs_by _ _ _ _ _ (rw c.in_default.is-0 at c.name_given.ensures) (rw c.in_default.is-1 at c.name_given-2.ensures)

pub returns-in_default-2 : goal.returns-in_default-2
returns-in_default-2 c =
    differs_by _ _ _ _ _ (rw c.in_default.is-0 at c.name_given.ensures) (rw c.in_default.is-1 at c.name_given-2.ensures)
