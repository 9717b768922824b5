-- `page::line::print_line` meets its contract. Assumes nothing.
use native.Mathlib.Omega.{arith}
use Prim.Native.Nat.{◌+◌}
use lib.ListN.{length-set}
use Rattle.page.proofs.Fields.{line_printed}
use Rattle.page.proofs.line.print_line.Goals as goal

pub print_field-requires : goal.print_field-requires
print_field-requires c = simp length-set (omega (arith, c.print_number.auto))

pub bounds-out-at-2 : goal.bounds-out-at-2
bounds-out-at-2 c =
    let number = c.print_number in
    let w = length-set number.new.out (c.args.at + 10) 32 in
    omega (arith, c.print_field.auto, number.auto)

pub shape_of-out : goal.shape_of-out
shape_of-out c =
    let number = c.print_number in
    let w = length-set number.new.out (c.args.at + 10) 32 in
    simp length-set (omega (arith, c.print_field.auto, number.auto))

pub returns : goal.returns
returns c =
    let a = c.args in
    let number = c.print_number in
    let field = c.print_field in
    line_printed a.image.now a.out.now number.new.out field.new.out a.id a.at number.ensures field.ensures
