-- `consistency::home` meets its contract. Assumes nothing.
use Rattle.std.proofs.Common.{◌∙◌}
use Rattle.consistency.proofs.MatchSearch.{home_named, not_home}
use Rattle.consistency.proofs.home.Goals as goal

pub returns-in-Some : goal.returns-in-Some
returns-in-Some c =
    c.has_match.ensures ∙ home_named c.args.image.now c.args.id c.in-Some.name.now c.in-Some.ensures

pub returns-in-None : goal.returns-in-None
returns-in-None c = not_home c.args.image.now c.args.id c.in-None.ensures
