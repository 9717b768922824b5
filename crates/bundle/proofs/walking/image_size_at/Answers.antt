-- `bundle::walking::image_size_at` meets its contract. Assumes nothing.
use Rattle.bundle.proofs.FileSteps.{size_end, size_short, size_small, size_past, size_fine}
use Rattle.bundle.proofs.walking.image_size_at.Goals as goal

pub returns-then-left-eq0 : goal.returns-then-left-eq0
returns-then-left-eq0 c = size_end c.args.file.now c.args.at c.requires c.if-left-eq0.true

pub returns-then-left-lt8 : goal.returns-then-left-lt8
returns-then-left-lt8 c = size_short c.args.file.now c.args.at c.requires c.if-left-eq0.false c.if-left-lt8.true

pub returns-then-size-lt-HEAD_SIZE : goal.returns-then-size-lt-HEAD_SIZE
returns-then-size-lt-HEAD_SIZE c =
    size_small c.args.file.now c.args.at c.requires c.if-left-eq0.false c.word-size.result c.if-left-lt8.false c.word-size.ensures
    c.if-size-lt-HEAD_SIZE.true

pub returns-then-left-size : goal.returns-then-left-size
returns-then-left-size c =
    size_past c.args.file.now c.args.at c.requires c.if-left-eq0.false c.word-size.result c.if-left-lt8.false c.word-size.ensures
    c.if-size-lt-HEAD_SIZE.false c.if-left-size.true

pub returns : goal.returns
returns c =
    size_fine c.args.file.now c.args.at c.requires c.if-left-eq0.false c.word-size.result c.if-left-lt8.false c.word-size.ensures
    c.if-size-lt-HEAD_SIZE.false c.if-left-size.false
