-- `search_length::some_entries` meets its contract. Assumes nothing.
use Rattle.search_length.proofs.Answers.{not_canonical, no_entries, some_entries}
use Rattle.search_length.proofs.some_entries.Goals as goal

pub returns-then-not-is_canonical : goal.returns-then-not-is_canonical
returns-then-not-is_canonical c = not_canonical c.args.image.now c.entry_count-n.ensures c.is_canonical.ensures c.if-not-is_canonical.true

pub returns-then-n-eq0 : goal.returns-then-n-eq0
returns-then-n-eq0 c = no_entries c.args.image.now c.entry_count-n.ensures c.is_canonical.ensures c.if-not-is_canonical.false c.if-n-eq0.true

pub returns : goal.returns
returns c = some_entries c.args.image.now c.entry_count-n.ensures c.is_canonical.ensures c.if-not-is_canonical.false c.if-n-eq0.false
