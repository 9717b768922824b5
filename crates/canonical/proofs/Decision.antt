-- What all of the checks decide. Assumes nothing.
use Prim.Native.Nat.{ℕ, ◌+◌, ◌*◌, ◌-◌, ◌≤◌}
use native.Mathlib.Omega.{arith}
use mathlib.Core.Path.{◌≡◌, refl, sym, ◌∙◌}
use mathlib.Core.Bool.{Bool, true, false, cond}
use mathlib.Core.List.{List}
use lib.ListN.{length}
use lib.Dec.{eqb, leb}
use borrow.Author.Tests.{leb-true, le-leb}
use Rattle.std.specs.Prelude.{Result, Ok, Err}
use Rattle.jhash.specs.declared.refusals.Refusal.{Refusal}
use Rattle.jhash.specs.declared.refusals.Refusal.TheVariants.{Unfit}
use Rattle.jhash.specs.Outcome.{value, refusal}
use Rattle.image.specs.Bytes.{word}
use Rattle.image.specs.Head.{back_size_at, back_offset_at}
use Rattle.image.specs.Image.{head_size}
use Rattle.image.specs.declared.Mode.{Mode}
use Rattle.image.specs.declared.Mode.TheVariants.{Twoway, Oneway}
use Rattle.image.specs.Steps.Contracts.{mode_read}
use Rattle.image.proofs.EntryArea.{AllBytes}
use Rattle.image.proofs.Bools.{false_not_true}
use Rattle.reader.specs.Open.{opening}
use Rattle.canonical.specs.Canonical.{canonical}
use Rattle.canonical.specs.Steps.Checks.{end_in, Checked, body_ok}
use Rattle.canonical.proofs.ReadBack.{canonical_yes, canonical_only}
use Rattle.canonical.proofs.TableChecks.{never_value}
use Rattle.canonical.proofs.ChecksSuffice.{checked_made}
use Rattle.canonical.proofs.ChecksHold.{canonical_checked}

-- ---- the flag word: what reads as a mode is at most 1, and what does not is larger

pub mode_read_ok : (w : ℕ) (m : Mode) → Ok m ≡ mode_read w → (w ≤ 1) × (m ≡ cond (eqb w 0) Twoway Oneway)
mode_read_ok w m e = by_test (leb w 1) refl e
  where
    by_test : (t : Bool) → leb w 1 ≡ t → ◌≡◌ {A = Result Mode Refusal} (Ok m) (cond t (Ok (cond (eqb w 0) Twoway Oneway)) (Err Unfit))
        → (w ≤ 1) × (m ≡ cond (eqb w 0) Twoway Oneway)
    by_test true p q = (leb-true w 1 p, cc)
    by_test false p q = cc

pub mode_read_err : (w : ℕ) (r : Refusal) → Err r ≡ mode_read w → w ≤ 1 → ⊥
mode_read_err w r e h =
    let t = le-leb w 1 h in
    let q : ◌≡◌ {A = Result Mode Refusal} (Err r) (Ok (cond (eqb w 0) Twoway Oneway)) = rw t at e in
    cc

-- ---- all checks

not_canonical : (img : List ℕ) → AllBytes img → ((m : ℕ) → Checked img m → ⊥) → false ≡ canonical img
not_canonical img bytes d = answer_false (canonical img) refl
  where
    answer_false : (r : Bool) → canonical img ≡ r → false ≡ r
    answer_false false e = refl
    answer_false true e = let made = canonical_only img bytes e in absurd (d (length made.puts) (canonical_checked img made))

pub never_opened : (img : List ℕ) (k : ℕ) → opening img ≡ refusal k → AllBytes img → false ≡ canonical img
never_opened img k e bytes = not_canonical img bytes (λ m c. never_value k m (sym e ∙ c.opened))

module _ (img : List ℕ) (n : ℕ) (bytes : AllBytes img) (opened : opening img ≡ value n) where
  -- one check fails
  pub refuse : (Checked img n → ⊥) → false ≡ canonical img
  refuse d = not_canonical img bytes (λ m c. d (same m c (sym c.opened ∙ opened)))
    where
      same : (m : ℕ) → Checked img m → value m ≡ value n → Checked img n
      same m c e = let f : m ≡ n = cc in rw f at c

  -- the checks of the head hold
  pub decided : (end back : ℕ) → word img 4 ≡ length img → word img 8 ≤ 1 → back ≡ back_size_at img → head_size + (16 * n + 4 * back) ≤ length img
      → end ≡ length img - (16 * n + 4 * back) → back_offset_at img ≡ cond (eqb back 0) 0 (end + 16 * n)
      → (r : Bool) → r ≡ body_ok img n end back → r ≡ canonical img
  decided end back size flag eb room ee offset r er = by_answer r (rw (ee, eb) at er)
    where
      by_answer : (r : Bool) → r ≡ body_ok img n (end_in img n) (back_size_at img) → r ≡ canonical img
      by_answer true e =
          sym (canonical_yes img
          (checked_made img n bytes
          record { opened = opened; size = size; flag = flag; room = omega arith; back_start = rw (ee, eb) at offset; body = sym e }))
      by_answer false e = refuse (λ c. false_not_true (e ∙ c.body))
