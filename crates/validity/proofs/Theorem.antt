-- The theorem `seasons`: the sentences of 02 (xiv) (`specs/Theorems/Seasons`). Assumes nothing.
use mathlib.Core.Path.{◌≡◌, refl, sym, ap, ◌∙◌}
use mathlib.Core.Logic.{◌↔◌, ◌⊎◌, inl, inr}
use Prim.Native.Nat.{ℕ, zero, suc}
use native.Mathlib.Omega.{arith}
use mathlib.Core.Bool.{Bool, true, false, cond, not, ◌&&◌, ◌||◌, true≢false}
use mathlib.Core.List.{List, [], ◌∷◌, ◌++◌}
use mathlib.Core.Option.{none, some}
use borrow.Author.Tests.{eqb-true, eq-eqb, not-true}
use lib.Dec.{eqb}
use Rattle.jhash.specs.Outcome.{Outcome, value, refusal}
use Rattle.jhash.proofs.ValueOrRefusal.{no_value, same_refusal}
use Rattle.image.proofs.Bools.{and_first, and_second}
use Rattle.reader.specs.Naming.{Naming, place, unnamed, naming}
use Rattle.reader.proofs.Namings.{never}
use Rattle.validity.specs.Calendar.{is_date, is_end, earlier}
use Rattle.validity.specs.Rule.{some_window, invalid_dates, inverted, holds_date, in_season, naming_on}
use Rattle.validity.specs.Theorems.Seasons.{SomeAt, WindowsAccepted, Seasons}
use Rattle.validity.specs.declared.Date.{Date}
use Rattle.validity.specs.declared.Window.{Window}
use Rattle.validity.proofs.Months.{no_month, month_lengths}
use Rattle.validity.proofs.Dates.{irreflexive, transitive, total}
use Rattle.validity.proofs.WindowLaws.{placed}

-- ---- some window
past_the_end : {w : Window} → ¬ (none ≡ some w)
past_the_end e = let z : ◌≡◌ {A = ℕ} 0 1 = cc in omega arith

decided : (b : Bool) → (b ≡ true) ⊎ (b ≡ false)
decided true = inl refl
decided false = inr refl

module _ (test : Window → Bool) where
  some_here : (w : Window) (ws : List Window) → test w ≡ true → some_window test (w ∷ ws) ≡ true
  unfolding some_window
  some_here w ws e = ap (λ (b : Bool). b || some_window test ws) e

  some_behind : (w : Window) (ws : List Window) → test w ≡ false → some_window test (w ∷ ws) ≡ some_window test ws
  unfolding some_window
  some_behind w ws e = ap (λ (b : Bool). b || some_window test ws) e

  some_more : (w : Window) (ws : List Window) → some_window test ws ≡ true → some_window test (w ∷ ws) ≡ true
  some_more w ws e =
      elim (decided (test w)) [
        | inl t ↦ some_here w ws t
        | inr f ↦ some_behind w ws f ∙ e
      ]

  some_window_lem : (ws : List Window) → (some_window test ws ≡ true) ↔ SomeAt test ws
  unfolding some_window
  some_window_lem [] = (λ e. absurd (true≢false (sym e)), λ s. absurd (past_the_end s.2))
  some_window_lem (v ∷ ws) = (to (some_window_lem ws), from (some_window_lem ws))
    where
      to : ((some_window test ws ≡ true) ↔ SomeAt test ws) → some_window test (v ∷ ws) ≡ true → SomeAt test (v ∷ ws)
      to rest e =
          elim (decided (test v)) [
            | inl t ↦ (0, v, refl, t)
            | inr f ↦ (let s = rest.0 (sym (some_behind v ws f) ∙ e) in (suc s.0, s.1, s.2, s.3))
          ]

      from : ((some_window test ws ≡ true) ↔ SomeAt test ws) → SomeAt test (v ∷ ws) → some_window test (v ∷ ws) ≡ true
      from rest (zero, w, at, t) = let e : v ≡ w = cc in some_here v ws (ap test e ∙ t)
      from rest (suc k, w, at, t) = some_more v ws (rest.1 (k, w, at, t))

  -- a window more, behind the first ones
  module _ (w : Window) (after : List Window) where
    pub some_added : (before : List Window) → some_window test (before ++ after) ≡ true → some_window test (before ++ w ∷ after) ≡ true
    some_added [] e = some_more w after e
    some_added (v ∷ vs) e =
        elim (decided (test v)) [
          | inl t ↦ some_here v (vs ++ w ∷ after) t
          | inr f ↦ some_behind v (vs ++ w ∷ after) f ∙ some_added vs (sym (some_behind v (vs ++ after) f) ∙ e)
        ]

    pub none_added : (before : List Window) → test w ≡ false → some_window test (before ++ after) ≡ false → some_window test (before ++ w ∷ after) ≡ false
    none_added [] n e = some_behind w after n ∙ e
    none_added (v ∷ vs) n e =
        elim (decided (test v)) [
          | inl t ↦ absurd (true≢false (sym (some_here v (vs ++ after) t) ∙ e))
          | inr f ↦ some_behind v (vs ++ w ∷ after) f ∙ none_added vs n (sym (some_behind v (vs ++ after) f) ∙ e)
        ]

-- ---- a window holds a date
holds_exactly : (id : ℕ) (date : Date) (w : Window)
    → (holds_date id date w ≡ true) ↔ ((w.id ≡ id) × (earlier date w.first ≡ false) × (earlier date w.end ≡ true))
unfolding holds_date
holds_exactly id date w = (to, from)
  where
    to : (eqb w.id id && not (earlier date w.first) && earlier date w.end) ≡ true
        → (w.id ≡ id) × (earlier date w.first ≡ false) × (earlier date w.end ≡ true)
    to e =
        let own = eqb w.id id in
        let begun = not (earlier date w.first) in
        let unended = earlier date w.end in
        let both = and_first (own && begun) unended e in (
          eqb-true w.id id (and_first own begun both),
          not-true (earlier date w.first) (and_second own begun both),
          and_second (own && begun) unended e,
        )

    from : (w.id ≡ id) × (earlier date w.first ≡ false) × (earlier date w.end ≡ true)
        → (eqb w.id id && not (earlier date w.first) && earlier date w.end) ≡ true
    from (i, p, q) = λ k. eq-eqb w.id id i k && not (p k) && q k

-- ---- the answer, by the four tests: the date exists; some window is invalidDates, is inverted, holds the date
module _ (n : Naming) where
  abbrev by : Bool → Bool → Bool → Bool → Outcome Naming
  by t a b c = cond (not t) (refusal 22) (cond a (refusal 22) (cond b (refusal 23) (value (cond c n unnamed))))

  another : {P : Type 0} → ◌≡◌ {A = Outcome Naming} (refusal 22) (refusal 23) → P
  another e = let z = same_refusal 22 23 e in absurd (omega arith)

  named : (s l : ℕ) (t a b c : Bool) → by t a b c ≡ value (place s l)
      → ((t ≡ true) × (a ≡ false) × (b ≡ false)) × (n ≡ place s l) × (c ≡ true)
  named s l false a b c e = absurd (no_value 22 (place s l) e)
  named s l true true b c e = absurd (no_value 22 (place s l) e)
  named s l true false true c e = absurd (no_value 23 (place s l) e)
  named s l true false false true e = ((refl, refl, refl), cc, refl)
  named s l true false false false e = let u : unnamed ≡ place s l = cc in never s l u

  two : (t a b c : Bool) → by t a b c ≡ refusal 22 → (t ≡ false) ⊎ (a ≡ true)
  two false a b c e = inl refl
  two true true b c e = inr refl
  two true false true c e = another (sym e)
  two true false false c e = absurd (no_value 22 (cond c n unnamed) (sym e))

  so_two : (t a b c : Bool) → (t ≡ false) ⊎ (a ≡ true) → by t a b c ≡ refusal 22
  so_two false a b c d = refl
  so_two true true b c d = refl
  so_two true false b c (inl e) = absurd (true≢false e)
  so_two true false b c (inr e) = absurd (true≢false (sym e))

  three : (t a b c : Bool) → by t a b c ≡ refusal 23 → (t ≡ true) × (a ≡ false) × (b ≡ true)
  three false a b c e = another e
  three true true b c e = another e
  three true false true c e = (refl, refl, refl)
  three true false false c e = absurd (no_value 23 (cond c n unnamed) (sym e))

module _ (image : List ℕ) (id : ℕ) (date : Date) (ws : List Window) where
  abbrev t : Bool
  t = is_date date

  abbrev a : Bool
  a = some_window invalid_dates ws

  abbrev b : Bool
  b = some_window inverted ws

  abbrev c : Bool
  c = some_window (holds_date id date) ws

  named_exactly : (s l : ℕ) → (naming_on image id date ws ≡ value (place s l)) ↔ (WindowsAccepted date ws × (naming image id ≡ place s l) × (c ≡ true))
  unfolding in_season
  named_exactly s l = (named (naming image id) s l t a b c, from)
    where
      from : WindowsAccepted date ws × (naming image id ≡ place s l) × (c ≡ true) → by (naming image id) t a b c ≡ value (place s l)
      from ((et, ea, eb), en, ec) = (λ i. by (naming image id) (et i) (ea i) (eb i) (ec i)) ∙ ap value en

  gives_22 : (naming_on image id date ws ≡ refusal 22) ↔ ((t ≡ false) ⊎ (a ≡ true))
  unfolding in_season
  gives_22 = (two (naming image id) t a b c, so_two (naming image id) t a b c)

  gives_23 : (naming_on image id date ws ≡ refusal 23) ↔ ((t ≡ true) × (a ≡ false) × (b ≡ true))
  unfolding in_season
  gives_23 = (three (naming image id) t a b c, λ e. λ i. by (naming image id) (e.0 i) (e.1 i) (e.2 i) c)

-- ---- a window more
adding : (image : List ℕ) (id : ℕ) (date : Date) (before after : List Window) (w : Window) (s l : ℕ)
    → is_date w.first ≡ true → is_end w.end ≡ true → earlier w.first w.end ≡ true
    → naming_on image id date (before ++ after) ≡ value (place s l) → naming_on image id date (before ++ w ∷ after) ≡ value (place s l)
unfolding invalid_dates inverted
adding image id date before after w s l first end starts e =
    let so = (named_exactly image id date (before ++ after) s l).0 e in
    let dated : invalid_dates w ≡ false = λ i. not (first i) || not (end i) in
    let straight : inverted w ≡ false = λ i. not (starts i) in
    (named_exactly image id date (before ++ w ∷ after) s l).1 (
      (so.0.0, none_added invalid_dates w after before dated so.0.1, none_added inverted w after before straight so.0.2),
      so.1,
      some_added (holds_date id date) w after before so.2,
    )

pub seasons : Seasons
seasons = record {
  month_lengths = month_lengths;
  no_other_month = λ year month h. sym (no_month year month h);
  irreflexive = irreflexive;
  transitive = transitive;
  total = total;
  some_window_lem = some_window_lem;
  holds_exactly = holds_exactly;
  named_exactly = named_exactly;
  gives_22 = gives_22;
  gives_23 = gives_23;
  in_two_parts = placed;
  adding = adding;
}
