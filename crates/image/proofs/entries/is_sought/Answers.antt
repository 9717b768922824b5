-- `image::entries::is_sought` meets its contract. Assumes nothing.
use Rattle.std.proofs.Common.{sym}
use Rattle.image.proofs.EntryWalk.{other_hash}
use Rattle.image.proofs.entries.is_sought.Goals as goal

pub returns-then-h-want : goal.returns-then-h-want
returns-then-h-want c = sym (other_hash c.requires c.if-h-want.true)
