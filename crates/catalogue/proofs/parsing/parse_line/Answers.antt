-- `catalogue::parsing::parse_line` meets its contract. Assumes nothing.
use Rattle.std.proofs.Common.{arith, ◌≡◌, ◌≤◌, ◌+◌, ℕ, sym, ap, ◌∙◌}
use lib.ListN.{take, get_or-eq_default, length-drop}
use lib.Seq.{take_all}
use Rattle.catalogue.specs.Lines.{parse_line, entry, other, decimal}
use Rattle.catalogue.proofs.Decimals.{digits_in_front}
use Rattle.catalogue.proofs.Forms.{form_read, other_unless}
use Rattle.catalogue.proofs.parsing.parse_line.Goals as goal
use Rattle.catalogue.proofs.parsing.parse_line.Goals.{then-n-lt1-via-then-n-lt1, then-n-lt1-via-else-n-lt1+then-n-gt10}
use Rattle.catalogue.proofs.parsing.parse_line.Goals.{then-n-lt1-via-else-n-lt1+else-n-gt10+then-line-n}
use Rattle.catalogue.proofs.parsing.parse_line.Goals.{then-n-lt1-via-else-n-lt1+else-n-gt10+else-line-n+then-line-n-ne32}

pub returns-then-n-lt1 : goal.returns-then-n-lt1
returns-then-n-lt1 c =
    let line = c.args.line.now in
    let digits = c.leading_digits-n.ensures in
    let e = digits_in_front line _ digits.inside digits.digits digits.stop in
    elim c.then-n-lt1.branch [
      | then-n-lt1-via-then-n-lt1 w ↦ other_unless _ _ e (λ low high space word. omega arith)
      | then-n-lt1-via-else-n-lt1+then-n-gt10 w ↦ other_unless _ _ e (λ low high space word. omega arith)
      | then-n-lt1-via-else-n-lt1+else-n-gt10+then-line-n w ↦
          other_unless _ _ e (λ low high space word. omega (arith, get_or-eq_default line 0 w.if-line-n.true))
      | then-n-lt1-via-else-n-lt1+else-n-gt10+else-line-n+then-line-n-ne32 w ↦
          other_unless _ _ e (λ low high space word. w.if-line-n-ne32.true space)
    ]

pub returns-in_err-id : goal.returns-in_err-id
returns-in_err-id c =
    let digits = c.leading_digits-n.ensures in
    let e = digits_in_front _ _ digits.inside digits.digits digits.stop in
    let large = c.in_err-id.ensures in
    let is : parse_line c.args.line.now ≡ other = other_unless _ _ e (λ low high space word. omega (arith, large)) in
    rw c.from_residual.ensures is

pub returns : goal.returns
returns c =
    let line = c.args.line.now in
    let n = c.leading_digits-n.result in
    let digits = c.leading_digits-n.ensures in
    let e = digits_in_front _ _ digits.inside digits.digits digits.stop in
    let id : c.in_ok-id.id ≡ decimal (take n line) = c.in_ok-id.ensures in
    let word : decimal (take n line) ≤ 4294967295 = omega arith in
    record {
      at = n + 1;
      form = form_read _ _ e c.if-n-lt1.false c.if-n-gt10.false c.if-line-n-ne32.false word ∙ ap (λ (k : ℕ). entry k (n + 1)) (sym id);
      named = take_all _ _ (omega (arith, length-drop (n + 1) line));
    }
