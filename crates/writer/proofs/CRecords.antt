-- C's writer record and 01's stand for each other. Assumes nothing.
use Prim.Native.Nat.{ℕ, ◌≤◌}
use native.Mathlib.Omega.{arith}
use mathlib.Core.Path.{◌≡◌, refl, sym, ap, ap₂, ◌∙◌}
use mathlib.Core.Bool.{Bool, true, false, cond}
use mathlib.Core.List.{List, []}
use lib.ListN.{length, get_or, set, length-set}
use lib.Seq.{get_or-set_same, get_or-set_other}
use lib.Dec.{eqb, leb}
use borrow.Author.Tests.{leb-true, eqb-true, eqb-false}
use Rattle.image.specs.declared.Mode.{Mode}
use Rattle.image.specs.declared.Mode.TheVariants.{Twoway, Oneway}
use Rattle.image.specs.Image.{flag_word}
use Rattle.image.proofs.Bools.{and_first, and_second}
use Rattle.writer.specs.declared.CQDBWriter.{CQDBWriter}
use Rattle.writer.specs.declared.Repeats.{Repeats}
use Rattle.writer.specs.declared.Repeats.TheVariants.{Off, On}
use Rattle.writer.specs.State.{State, state_with}
use Rattle.writer.specs.Numbers.{valid_numbers, mode_of, repeats_of, repeats_word}
use Rattle.writer.specs.declared.c_record.Record.{Record}
use Rattle.writer.specs.CRecord.{writer_of, record_of, record_in, CState, c_state, known_in, state_in, c_state_of}

-- a number that stands for a mode is that mode's flag word
mode_word : (mode : ℕ) → mode ≤ 1 → flag_word (mode_of mode) ≡ mode
mode_word mode fine = by_test (eqb mode 0) refl
  where
    by_test : (t : Bool) → eqb mode 0 ≡ t → flag_word (cond t Twoway Oneway) ≡ mode
    by_test true e = sym (eqb-true mode 0 e)
    by_test false e = omega (arith, eqb-false mode 0 e)

-- and one that stands for a choice of repeats is that one's
repeats_word_lem : (repeats : ℕ) → repeats ≤ 1 → repeats_word (repeats_of repeats) ≡ repeats
repeats_word_lem repeats fine = by_test (eqb repeats 0) refl
  where
    by_test : (t : Bool) → eqb repeats 0 ≡ t → repeats_word (cond t Off On) ≡ repeats
    by_test true e = sym (eqb-true repeats 0 e)
    by_test false e = omega (arith, eqb-false repeats 0 e)

-- C's record and 01's stand for each other, so that a refused call hands back the very record
pub back_and_forth : (h : CState) → known_in h ≡ true → c_state_of (state_in h) ≡ h
back_and_forth h fine =
    let w = h.writer in
    ap₂
    (λ (m r : ℕ).
    c_state
    (record { mode = m; repeats = r; entries = w.entries; back = w.back; length = w.length; end = w.end })
    h.counts
    h.buffer)
    (mode_word w.mode (leb-true w.mode 1 (and_first (leb w.mode 1) (leb w.repeats 1) fine)))
    (repeats_word_lem w.repeats (leb-true w.repeats 1 (and_second (leb w.mode 1) (leb w.repeats 1) fine)))

-- the other way round: 01's record, as C has it, is one of 01's and stands for itself
pub c_state_known : (s : State) → known_in (c_state_of s) ≡ true
c_state_known s = by_cases s.writer.mode s.writer.repeats
  where
    by_cases : (mode : Mode) (repeats : Repeats) → valid_numbers (flag_word mode) (repeats_word repeats) ≡ true
    by_cases Twoway Off = refl
    by_cases Twoway On = refl
    by_cases Oneway Off = refl
    by_cases Oneway On = refl

mode_back : (mode : Mode) → mode_of (flag_word mode) ≡ mode
mode_back Twoway = refl
mode_back Oneway = refl

repeats_back : (repeats : Repeats) → repeats_of (repeats_word repeats) ≡ repeats
repeats_back Off = refl
repeats_back On = refl

pub forth_and_back : (s : State) → state_in (c_state_of s) ≡ s
forth_and_back s =
    let w = s.writer in
    ap₂ {C = State}
    (λ (m : Mode) (r : Repeats).
    state_with (record { mode = m; repeats = r; length = w.length; end = w.end; entries = w.entries; back = w.back }) s.counts s.buffer)
    (mode_back w.mode)
    (repeats_back w.repeats)

pub known_back : (r : Record) → valid_numbers r.mode r.repeats ≡ true → record_of (writer_of r) ≡ r
known_back r fine = ap (λ (x : CState). x.writer) (back_and_forth (c_state r [] []) fine)

-- ---- a record in place

-- a put stores entries, back size and end
abbrev pub record_after : Record → CQDBWriter → Record
record_after r w =
    record {
      mode = r.mode;
      repeats = r.repeats;
      entries = w.entries;
      back = w.back;
      length = r.length;
      end = w.end;
    }

pub record_stored : (numbers sizes : List ℕ) (w : CQDBWriter) → length numbers ≡ 4 → length sizes ≡ 2
    → record_in (set (set numbers 2 w.entries) 3 w.back) (set sizes 1 w.end) ≡ record_after (record_in numbers sizes) w
record_stored numbers sizes w four two =
    λ i. record {
      mode = (other 0 (λ z. omega (arith, z)) (λ z. omega (arith, z))) i;
      repeats = (other 1 (λ z. omega (arith, z)) (λ z. omega (arith, z))) i;
      entries =
          (get_or-set_other (set numbers 2 w.entries) 3 2 w.back 0 (λ z. omega (arith, z))
          ∙ get_or-set_same numbers 2 w.entries 0 (omega (arith, four))) i;
      back = get_or-set_same (set numbers 2 w.entries) 3 w.back 0 (omega (arith, four, length-set numbers 2 w.entries)) i;
      length = get_or-set_other sizes 1 0 w.end 0 (λ z. omega (arith, z)) i;
      end = get_or-set_same sizes 1 w.end 0 (omega (arith, two)) i;
    }
  where
    other : (j : ℕ) → (j ≡ 2 → ⊥) → (j ≡ 3 → ⊥) → get_or (set (set numbers 2 w.entries) 3 w.back) j 0 ≡ get_or numbers j 0
    other j x y = get_or-set_other (set numbers 2 w.entries) 3 j w.back 0 y ∙ get_or-set_other numbers 2 j w.entries 0 x

-- where mode, choice and length stay, that is the whole record
pub record Stay (v w : CQDBWriter) : Type 0 where
  pub modes : w.mode ≡ v.mode
  pub choices : w.repeats ≡ v.repeats
  pub lengths : w.length ≡ v.length

pub whole_stored : (r : Record) (w : CQDBWriter) → valid_numbers r.mode r.repeats ≡ true → Stay (writer_of r) w → record_after r w ≡ record_of w
whole_stored r w fine stay =
    let back = known_back r fine in
    λ i. record {
      mode = (sym (ap (λ (x : Record). x.mode) back) ∙ ap flag_word (sym stay.modes)) i;
      repeats = (sym (ap (λ (x : Record). x.repeats) back) ∙ ap repeats_word (sym stay.choices)) i;
      entries = w.entries;
      back = w.back;
      length = sym stay.lengths i;
      end = w.end;
    }

-- grown stores the length
abbrev pub record_longer : Record → ℕ → Record
record_longer r n =
    record { mode = r.mode; repeats = r.repeats; entries = r.entries; back = r.back; length = n; end = r.end }

pub length_stored : (numbers sizes : List ℕ) (n : ℕ) → length sizes ≡ 2
    → record_in numbers (set sizes 0 n) ≡ record_longer (record_in numbers sizes) n
length_stored numbers sizes n two =
    λ i. record {
      mode = get_or numbers 0 0;
      repeats = get_or numbers 1 0;
      entries = get_or numbers 2 0;
      back = get_or numbers 3 0;
      length = get_or-set_same sizes 0 n 0 (omega (arith, two)) i;
      end = get_or-set_other sizes 0 1 n 0 (λ z. omega (arith, z)) i;
    }
