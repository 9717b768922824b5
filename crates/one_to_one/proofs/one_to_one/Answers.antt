-- `one_to_one::one_to_one` meets its contract. Assumes nothing.
use Rattle.std.proofs.Common.{◌≡◌, sym, ap, ◌∙◌, true}
use Rattle.jhash.specs.Outcome.{value}
use Rattle.canonical.specs.Canonical.{canonical}
use Rattle.one_to_one.proofs.Answers.{refused, answered}
use Rattle.one_to_one.proofs.one_to_one.Goals.{Else-not-is_canonical}
use Rattle.one_to_one.proofs.one_to_one.Goals as goal

own : (c : Else-not-is_canonical) → canonical c.args.image.now ≡ true
own c = let q = c.is_canonical in sym q.ensures ∙ c.if-not-is_canonical.false

pub returns-then-not-is_canonical : goal.returns-then-not-is_canonical
returns-then-not-is_canonical c =
    let q = c.is_canonical in
    sym (refused c.args.image.now (sym q.ensures ∙ c.if-not-is_canonical.true))

pub first_failure-requires : goal.first_failure-requires
first_failure-requires c = record { canonical = own (goal.at.first_failure-requires c).Else-not-is_canonical; number = c.entry_count.ensures }

pub returns : goal.returns
returns c =
    ap value c.first_failure.ensures ∙ sym (answered c.args.image.now (own (goal.at.returns c).Else-not-is_canonical))
