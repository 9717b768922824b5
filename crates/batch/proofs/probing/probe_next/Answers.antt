-- `batch::probing::probe_next` meets its contract. Assumes nothing.
use native.Mathlib.Omega.{arith}
use mathlib.Core.Path.{sym}
use Rattle.image.proofs.Bools.{false_not_true}
use Rattle.batch.proofs.Probes.{open_past, probed}
use Rattle.batch.proofs.probing.probe_next.Goals as goal

pub returns-then-n-c : goal.returns-then-n-c
returns-then-n-c c =
    let a = c.args in
    let t = c.table-table in
    record {
      is_open = λ e.
          open_past a.image.bytes.now a.h a.c t.result.n t.ensures.unread
          (λ some. let row = t.ensures.table some in (row.searched, row.number)) c.if-n-c.true c.requires.is_open;
      decided = λ e. absurd (false_not_true (sym e));
    }

pub returns : goal.returns
returns c =
    let row = c.table-table.ensures.table (omega (arith, c.if-n-c.false)) in
    probed
    (record {
      head = c.args.image.has_head;
      searched = row.searched;
      table = row.offset;
      number = row.number;
      more = omega (arith, c.if-n-c.false);
      bucket = c.bucket_after-k.ensures.is;
      of_offset = c.word-offset.ensures;
      of_hash = c.word.ensures;
      is_open = c.requires.is_open;
    }) c.goes_past-stays.ensures
