-- `canonical::check_opened` meets its contract. Assumes nothing.
use Rattle.std.proofs.Common.{arith, ℕ, ◌+◌, ◌*◌, ◌-◌, ◌≡◌, sym, ap, ap₂, ◌∙◌, false, cond, eqb}
use Rattle.jhash.specs.Word.{AllBytes}
use Rattle.image.specs.Head.{back_size_at}
use Rattle.image.specs.declared.Mode.TheVariants.{Twoway, Oneway}
use Rattle.canonical.specs.Steps.Checks.{end_in, Checked}
use Rattle.canonical.specs.Canonical.{canonical}
use Rattle.canonical.proofs.Decision.{mode_read_ok, mode_read_err, refuse, decided}
use Rattle.canonical.proofs.TableChecks.{opened_inside}
use Rattle.canonical.proofs.check_opened.Goals.{After-offset_or_zero, After-size_or_zero-size}
use Rattle.canonical.proofs.check_opened.Goals as goal

bytes : (c : After-size_or_zero-size) → AllBytes c.args.image.now
bytes c i = omega (arith, c.shared_slice_known-1.given i)

-- the offset that the back array must have
wanted : (c : After-offset_or_zero) → let s = c.args in
    c.offset_or_zero.result ≡ cond (eqb (back_size_at s.image.now) 0) 0 (end_in s.image.now s.n + 16 * s.n)
wanted c =
    let n = c.args.n in
    c.offset_or_zero.ensures
    ∙ ap₂ (λ (k l : ℕ). cond (eqb k 0) 0 (l - (16 * n + 4 * k) + 16 * n)) c.size_or_zero-back.ensures.is c.if-size-image.false

-- one check fails
refused : (f : After-size_or_zero-size) → (Checked f.args.image.now f.args.n → ⊥) → false ≡ canonical f.args.image.now
refused f d = refuse f.args.image.now f.args.n (bytes f) f.requires d

pub returns-then-size-image : goal.returns-then-size-image
returns-then-size-image c = refused (goal.at.returns-then-size-image c).After-size_or_zero-size
    (λ k. c.if-size-image.true (c.size_or_zero-size.ensures.is ∙ k.size))

pub returns-in_default : goal.returns-in_default
returns-in_default c = refused (goal.at.returns-in_default c).After-size_or_zero-size
    (λ k. mode_read_err c.word_or_zero.result _ c.in_default.ensures (omega (arith, k.flag, c.word_or_zero.ensures)))

pub returns-then-size-behind : goal.returns-then-size-behind
returns-then-size-behind c =
    refused (goal.at.returns-then-size-behind c).After-size_or_zero-size
    (λ k. omega (arith, k.room, c.size_or_zero-back.ensures.is, c.if-size-image.false, c.if-size-behind.true))

pub returns-then-size_or_zero-offset_or_zero : goal.returns-then-size_or_zero-offset_or_zero
returns-then-size_or_zero-offset_or_zero c =
    refused (goal.at.returns-then-size_or_zero-offset_or_zero c).After-size_or_zero-size
    (λ k. c.if-size_or_zero-offset_or_zero.true (c.size_or_zero.ensures.is ∙ k.back_start
    ∙ sym (wanted (goal.at.returns-then-size_or_zero-offset_or_zero c).After-offset_or_zero)))

pub check_body-requires : goal.check_body-requires
check_body-requires c =
    record {
      mode_there =
          (mode_read_ok c.word_or_zero.result c.in-Ok.mode c.in-Ok.ensures).1
          ∙ ap (λ (w : ℕ). cond (eqb w 0) Twoway Oneway) c.word_or_zero.ensures;
      area = record { from = omega arith; inside = omega arith; small = omega (arith, c.size_or_zero-size.ensures.small) };
      back_small = c.size_or_zero-back.ensures.small;
      tables = opened_inside c.args.image.now c.args.n c.requires;
    }

pub returns : goal.returns
returns c =
    let n = c.args.n in
    let back = c.size_or_zero-back.result in
    decided c.args.image.now n (bytes (goal.at.returns c).After-size_or_zero-size) c.requires (c.size_or_zero-size.result - (16 * n + 4 * back))
    back (sym c.size_or_zero-size.ensures.is ∙ c.if-size-image.false)
    (omega (arith, c.word_or_zero.ensures, (mode_read_ok c.word_or_zero.result c.in-Ok.mode c.in-Ok.ensures).0)) c.size_or_zero-back.ensures.is
    (omega (arith, c.if-size-behind.false))
    (ap (λ (l : ℕ). l - (16 * n + 4 * back)) c.if-size-image.false)
    (sym c.size_or_zero.ensures.is ∙ c.if-size_or_zero-offset_or_zero.false ∙ c.offset_or_zero.ensures)
    c.check_body.result
    c.check_body.ensures
