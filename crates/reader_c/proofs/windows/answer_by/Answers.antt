-- `reader_c::windows::answer_by` meets its contract: a name's length fits its 32 bits. Assumes nothing.
use Rattle.std.proofs.Common.{ℕ, sym, arith}
use Rattle.reader.proofs.Lengths.{named_small}
use Rattle.validity.proofs.WindowTests.{named_so}
use Rattle.reader_c.proofs.windows.answer_by.Goals as goal

pub overflow_cast-result : goal.overflow_cast-result
overflow_cast-result c =
    let a = c.args in
    let p = c.in-Ok-Some.place in
    let so = named_so a.image.now a.id a.date a.s p.start p.len (sym (rw c.in-Ok-Some.field-0-is at c.in-Ok-Some.ensures)) in
    omega (arith, named_small a.image.now a.id p.start p.len (λ (i : ℕ). omega (arith, (c.type_inv.image i).fits)) so)
