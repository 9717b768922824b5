-- `serialize::insert::same_names` meets its contract. Assumes nothing.
use Rattle.std.proofs.Common.{sym, ◌∙◌, ap₂, arith}
use Rattle.image.specs.Bytes.{same}
use Rattle.image.proofs.Between.{whole_room}
use Rattle.serialize.proofs.Insertion.{name_in_read}
use Rattle.serialize.proofs.insert.same_names.Goals as goal

pub name_at-requires : goal.name_at-requires
name_at-requires c = (whole_room (record { from = omega arith; inside = omega arith }) c.in-Some.ensures).name

pub name_at-requires-2 : goal.name_at-requires-2
name_at-requires-2 c = (whole_room (record { from = omega arith; inside = omega arith }) c.in-Some-whole_length.ensures).name

pub returns : goal.returns
returns c = λ z.
    let a = c.args in
    sym
    (ap₂ same (name_in_read a.front.now a.a _ c.in-Some.ensures.is c.name_at.ensures.is)
    (name_in_read a.front.now a.b _ c.in-Some-whole_length.ensures.is c.name_at-2.ensures.is))
    ∙ sym c.same.ensures
    ∙ z
