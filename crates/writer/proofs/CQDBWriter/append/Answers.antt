-- `CQDBWriter::append` meets its contract. Assumes nothing.
use Rattle.writer.proofs.Puts.{appended_parts}
use Rattle.writer.proofs.CQDBWriter.append.Goals as goal

pub returns : goal.returns
returns c =
    let a = c.args in
    appended_parts a.self.now c.count_put.new.self a.counts.now c.raise.new.counts a.buf.now c.store.new.buf a.name.now a.id a.h
    c.requires.hash c.count_put.ensures c.raise.ensures c.store.ensures
