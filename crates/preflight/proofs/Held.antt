-- What is proved of the dates of a report (`specs/Theorems/Held`). Assumes nothing.
use Prim.Native.Nat.{ℕ}
use native.Mathlib.Omega.{arith}
use mathlib.Core.Path.{◌≡◌, refl, sym, ap}
use mathlib.Core.Logic.{◌↔◌, ◌⊎◌, inl, inr}
use mathlib.Core.Bool.{Bool, true, false, cond, not, ◌&&◌}
use mathlib.Core.List.{List, ◌∷◌, ◌++◌}
use borrow.Author.Tests.{not-false}
use Rattle.image.proofs.Bools.{false_not_true}
use Rattle.validity.specs.Calendar.{is_date, is_end, earlier}
use Rattle.validity.specs.Rule.{some_window, invalid_dates, inverted, holds_date}
use Rattle.validity.specs.Theorems.Seasons.{SomeAt}
use Rattle.validity.specs.declared.Date.{Date}
use Rattle.validity.specs.declared.Window.{Window}
use Rattle.validity.proofs.Theorem.{seasons, some_added, none_added}
use Rattle.preflight.specs.Dates.{holds_both, outside, first_outside, of_outside, preflight_dates}
use Rattle.preflight.specs.Theorems.Asked.{In}
use Rattle.preflight.specs.Theorems.Held.{Holds, DatesAccepted, DatesHeld}
use Rattle.preflight.specs.Answers.Place.{Place}
use Rattle.preflight.specs.Answers.Place as place
use Rattle.preflight.specs.Answers.DatesAnswer.{Yes, Refused}
use Rattle.preflight.proofs.Members.{none_passes, passes_none}
use Rattle.preflight.proofs.Windows.{invalid_by, inverted_by, dates_by}

-- ---- one window
both_so : (a b : Bool) → (a && b) ≡ true → (a ≡ true) × (b ≡ true)
both_so true b h = (refl, h)
both_so false b h = absurd (false_not_true h)

module _ (last date : Date) (id : ℕ) (w : Window) where
  abbrev one_date : (d : Date) → (holds_date id d w ≡ true) ↔ ((w.id ≡ id) × (earlier d w.first ≡ false) × (earlier d w.end ≡ true))
  one_date d = seasons.holds_exactly id d w

  held : (d : Date) → holds_date id d w ≡ true → Holds id d w
  held d h = let t = (one_date d).0 h in record { its_own = t.0; begun = t.1; not_ended = t.2 }

  holding : (d : Date) → Holds id d w → holds_date id d w ≡ true
  holding d h = (one_date d).1 (h.its_own, h.begun, h.not_ended)

  holds_exactly : (holds_both last date id w ≡ true) ↔ (Holds id last w × Holds id date w)
  holds_exactly = (
    λ h. let t = both_so (holds_date id last w) (holds_date id date w) h in (held last t.0, held date t.1),
    λ t. λ k. holding last t.0 k && holding date t.1 k,
  )

-- ---- the answer
no_yes : {P : Type 0} (k : ℕ) → Refused k ≡ Yes → P
no_yes k e = let z : ◌≡◌ {A = ℕ} 0 1 = cc in absurd (omega arith)

none_outside : (x : Place) → of_outside x ≡ Yes → x ≡ place.Nothing
none_outside (place.At p) e = let z : ◌≡◌ {A = ℕ} 0 1 = cc in absurd (omega arith)
none_outside place.Nothing e = refl

module _ (windows : List Window) (round : List ℕ) (last date : Date) where
  abbrev EachHeld : Type 0
  EachHeld = (i : ℕ) → In i round → SomeAt (holds_both last date i) windows

  each_held : first_outside windows last date round ≡ place.Nothing → EachHeld
  each_held h i m =
      (seasons.some_window_lem (holds_both last date i) windows).0
      (not-false _ (none_passes (outside windows last date) 0 round h i m))

  held_each : EachHeld → first_outside windows last date round ≡ place.Nothing
  held_each h =
      passes_none (outside windows last date) 0 round
      (λ i m. ap not ((seasons.some_window_lem (holds_both last date i) windows).1 (h i m)))

  forth : preflight_dates windows round last date ≡ Yes → DatesAccepted windows last date × EachHeld
  unfolding preflight_dates
  forth h =
      by_tests (is_date last) refl (is_date date) refl (some_window invalid_dates windows) refl (some_window inverted windows) refl h
    where
      by_tests : (p : Bool) → is_date last ≡ p → (q : Bool) → is_date date ≡ q → (b : Bool) → some_window invalid_dates windows ≡ b
          → (v : Bool) → some_window inverted windows ≡ v
          → cond (not p) (Refused 22)
          (cond (not q) (Refused 22) (cond b (Refused 22) (cond v (Refused 23) (of_outside (first_outside windows last date round)))))
          ≡ Yes
          → DatesAccepted windows last date × EachHeld
      by_tests false ep q eq b eb v ev e = no_yes 22 e
      by_tests true ep false eq b eb v ev e = no_yes 22 e
      by_tests true ep true eq true eb v ev e = no_yes 22 e
      by_tests true ep true eq false eb true ev e = no_yes 23 e
      by_tests true ep true eq false eb false ev e = (
        record { last_exists = ep; date_exists = eq; no_invalid = eb; none_inverted = ev },
        each_held (none_outside (first_outside windows last date round) e),
      )

  back : DatesAccepted windows last date → EachHeld → preflight_dates windows round last date ≡ Yes
  back a h =
      sym (dates_by windows round last date true true false false place.Nothing a.last_exists a.date_exists a.no_invalid a.none_inverted
      (held_each h))

  gives_22 : (is_date last ≡ false) ⊎ ((is_date date ≡ false) ⊎ (some_window invalid_dates windows ≡ true))
      → preflight_dates windows round last date ≡ Refused 22
  unfolding preflight_dates
  gives_22 (inl e) = simp e
  gives_22 (inr (inl e)) = by_last (is_date last)
    where
      by_last : (p : Bool) → cond (not p) (Refused 22) (cond (not (is_date date)) (Refused 22) (cond (some_window invalid_dates windows) (Refused 22)
          (cond (some_window inverted windows) (Refused 23) (of_outside (first_outside windows last date round))))) ≡ Refused 22
      by_last true = simp e
      by_last false = refl
  gives_22 (inr (inr e)) = by_dates (is_date last) (is_date date)
    where
      by_dates : (p q : Bool) → cond (not p) (Refused 22) (cond (not q) (Refused 22) (cond (some_window invalid_dates windows) (Refused 22)
          (cond (some_window inverted windows) (Refused 23) (of_outside (first_outside windows last date round))))) ≡ Refused 22
      by_dates true true = simp e
      by_dates true false = refl
      by_dates false q = refl

  gives_23 : is_date last ≡ true → is_date date ≡ true → some_window invalid_dates windows ≡ false → some_window inverted windows ≡ true
      → preflight_dates windows round last date ≡ Refused 23
  gives_23 ep eq eb ev =
      sym (dates_by windows round last date true true false true (first_outside windows last date round) ep eq eb ev refl)

-- ---- a window more
adding : (before after : List Window) (w : Window) (round : List ℕ) (last date : Date)
    → is_date w.first ≡ true → is_end w.end ≡ true → earlier w.first w.end ≡ true
    → preflight_dates (before ++ after) round last date ≡ Yes
    → preflight_dates (before ++ w ∷ after) round last date ≡ Yes
adding before after w round last date f e o h =
    let t = forth (before ++ after) round last date h in
    let valid : invalid_dates w ≡ false = sym (invalid_by w true true f e) in
    let upright : inverted w ≡ false = sym (inverted_by w true (sym o)) in
    back (before ++ w ∷ after) round last date
    (record {
      last_exists = t.0.last_exists;
      date_exists = t.0.date_exists;
      no_invalid = none_added invalid_dates w after before valid t.0.no_invalid;
      none_inverted = none_added inverted w after before upright t.0.none_inverted;
    })
    (λ i m.
    let test = holds_both last date i in
    (seasons.some_window_lem test (before ++ w ∷ after)).0
    (some_added test w after before ((seasons.some_window_lem test (before ++ after)).1 (t.1 i m))))

pub dates_held : DatesHeld
dates_held = record {
  yes_exactly = λ windows round last date. (forth windows round last date, λ t. back windows round last date t.0 t.1);
  holds_exactly = holds_exactly;
  gives_22 = gives_22;
  gives_23 = gives_23;
  adding = adding;
}
