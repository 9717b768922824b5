-- `reader::opening::with_slack` meets its contract: a join below 2^63 has both parts below it. Assumes nothing.
use Rattle.std.proofs.Common.{arith}
use Rattle.image.proofs.BitOr.{le_or_l, le_or_r}
use Rattle.reader.proofs.opening.with_slack.Goals as goal

pub returns : goal.returns
returns c = λ h.
    let rooms = c.args.slacks in
    let own = c.slack.result in
    record { before = omega (arith, h, le_or_l rooms own); inside = c.slack.ensures (omega (arith, h, le_or_r rooms own)) }
