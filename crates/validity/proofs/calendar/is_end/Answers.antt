-- `validity::calendar::is_end` meets its contract, by the tests that led to each return.
use Rattle.std.proofs.Common.{◌≡◌, Bool, true, false, ◌&&◌, eqb, refl, sym, ◌∙◌}
use Rattle.validity.specs.Calendar.{is_date, is_end}
use Rattle.validity.proofs.calendar.is_end.Goals as goal

and_assoc : (a b c : Bool) → a && (b && c) ≡ a && b && c
and_assoc true b c = refl
and_assoc false b c = refl

pub returns-then-is_date : goal.returns-then-is_date
unfolding is_end
returns-then-is_date c = let t = sym c.is_date.ensures ∙ c.if-is_date.true in c.if-is_date.true ∙ sym (simp t)

pub returns-else-is_date : goal.returns-else-is_date
unfolding is_end
returns-else-is_date c =
    let f : is_date c.args.d ≡ false = sym c.is_date.ensures ∙ c.if-is_date.false in
    let d = c.args.d in
    simp f (c.eq.ensures ∙ and_assoc (eqb d.year 2200) (eqb d.month 1) (eqb d.day 1))
