-- `canonical::check_body` meets its contract. Assumes nothing.
use Rattle.std.proofs.Common.{arith, replicate, eq-eqb, ne_eqb, ◌≡◌, ◌+◌, ◌*◌, refl, sym, ap, ap₂, ◌∙◌, Bool, true, false, cond, eqb, List, ℕ}
use Rattle.image.specs.Image.{back_size, back_in}
use Rattle.image.specs.Tally.{tallied}
use Rattle.image.specs.declared.Mode.{Mode}
use Rattle.image.specs.declared.Mode.TheVariants.{Twoway, Oneway}
use Rattle.writer.proofs.Agree.{zeros}
use Rattle.canonical.specs.Canonical.{mode_in}
use Rattle.canonical.specs.Steps.Checks.{entries_to, rows_ok, counts_match, is_two, two_way, entries_valid, body_ok}
use Rattle.canonical.proofs.TableChecks.{rows_held}
use Rattle.canonical.proofs.check_body.Goals.{After-back_for, After-counts_match, Else-not-check_rows, In-Some}
use Rattle.canonical.proofs.check_body.Goals as goal

rows : (c : Else-not-check_rows) → rows_ok c.args.image.now c.args.end ≡ true
rows c = sym c.check_rows.ensures ∙ c.if-not-check_rows.false

two : {mode : Mode} (img : List ℕ) → mode ≡ mode_in img → is_two mode ≡ two_way img
two img e = ap is_two e ∙ same (two_way img)
  where
    same : (t : Bool) → is_two (cond t Twoway Oneway) ≡ t
    same true = refl
    same false = refl

valid : (c : In-Some) → let a = c.args in entries_valid a.image.now a.end a.n (two_way a.image.now) (a.end + 16 * a.n) ≡ true
valid c = rw (two c.args.image.now c.requires.mode_there) at c.in-Some.ensures.valid

-- what the counts match
counted : (c : After-counts_match) → let a = c.args in
    c.counts_match.result ≡ counts_match a.image.now (tallied (replicate 256 0) (entries_to a.image.now a.end a.n))
counted c = c.counts_match.ensures ∙ ap (counts_match c.args.image.now) c.in-Some.ensures.by_table

-- the back size
back : (c : After-back_for) → let a = c.args in c.back_for.result ≡ back_in (mode_in a.image.now) (back_size (entries_to a.image.now a.end a.n))
back c = c.back_for.ensures ∙ ap₂ back_in c.requires.mode_there c.in-Some.ensures.back

-- ---- the needs
pub returns-then-not-check_rows : goal.returns-then-not-check_rows
unfolding body_ok
returns-then-not-check_rows c = rw (sym c.check_rows.ensures ∙ c.if-not-check_rows.true)

pub check_entries-requires : goal.check_entries-requires
check_entries-requires c =
    record {
      area = c.requires.area;
      back_word_of = omega (arith, c.requires.area.small, c.ranges.n);
      tables = rows_held c.args.image.now c.args.end c.requires.tables (omega (arith, c.requires.area.from))
          (rows (goal.at.check_entries-requires c).Else-not-check_rows);
      zeros = zeros 256;
    }

pub returns-in_default : goal.returns-in_default
unfolding body_ok
returns-in_default c =
    rw (rows (goal.at.returns-in_default c).Else-not-check_rows, rw (two c.args.image.now c.requires.mode_there) at c.in_default.ensures)

pub returns-then-not-counts_match : goal.returns-then-not-counts_match
unfolding body_ok
returns-then-not-counts_match c =
    rw (
      rows (goal.at.returns-then-not-counts_match c).Else-not-check_rows,
      valid (goal.at.returns-then-not-counts_match c).In-Some,
      sym (counted (goal.at.returns-then-not-counts_match c).After-counts_match) ∙ c.if-not-counts_match.true,
    )

pub returns-then-back-back_for : goal.returns-then-back-back_for
unfolding body_ok
returns-then-back-back_for c =
    rw (
      rows (goal.at.returns-then-back-back_for c).Else-not-check_rows,
      valid (goal.at.returns-then-back-back_for c).In-Some,
      sym (counted (goal.at.returns-then-back-back_for c).After-counts_match) ∙ c.if-not-counts_match.false,
      ne_eqb _ _ (λ y. c.if-back-back_for.true (y ∙ sym (back (goal.at.returns-then-back-back_for c).After-back_for))),
    )

pub returns-in-Oneway : goal.returns-in-Oneway
unfolding body_ok
returns-in-Oneway c =
    rw (
      rows (goal.at.returns-in-Oneway c).Else-not-check_rows,
      valid (goal.at.returns-in-Oneway c).In-Some,
      sym (counted (goal.at.returns-in-Oneway c).After-counts_match) ∙ c.if-not-counts_match.false,
      eq-eqb _ _ (c.if-back-back_for.false ∙ back (goal.at.returns-in-Oneway c).After-back_for),
      sym (two c.args.image.now c.requires.mode_there) ∙ ap is_two c.in-Oneway.is,
    )

pub returns-in-Twoway : goal.returns-in-Twoway
unfolding body_ok
returns-in-Twoway c =
    rw (
      rows (goal.at.returns-in-Twoway c).Else-not-check_rows,
      valid (goal.at.returns-in-Twoway c).In-Some,
      sym (counted (goal.at.returns-in-Twoway c).After-counts_match) ∙ c.if-not-counts_match.false,
      eq-eqb _ _ (c.if-back-back_for.false ∙ back (goal.at.returns-in-Twoway c).After-back_for),
      sym (two c.args.image.now c.requires.mode_there) ∙ ap is_two c.in-Twoway.is,
    )
    (ap₂ eqb c.count_used.ensures c.in-Some.ensures.lasts)
