-- The loops over windows, and the answer about dates by the branches of the code. Assumes nothing.
use Prim.Native.Nat.{ℕ, suc, ◌+◌, ◌*◌, ◌-◌, ◌/◌, ◌≤◌, ◌<◌}
use native.Mathlib.Omega.{arith}
use mathlib.Core.Path.{◌≡◌, sym, ap, ◌∙◌}
use mathlib.Core.Bool.{Bool, false, cond, not, ◌&&◌, ◌||◌}
use mathlib.Core.List.{List}
use lib.Dec.{eqb}
use lib.ListN.{length, get_or}
use Rattle.validity.specs.Calendar.{is_date, is_end, earlier}
use Rattle.validity.specs.Rule.{some_window, invalid_dates, inverted, holds_date}
use Rattle.validity.specs.declared.Date.{Date}
use Rattle.validity.specs.declared.Window.{Window}
use Rattle.preflight.specs.Dates.{date_of, window_at, windows_from, windows_in, first_outside, of_outside, preflight_dates}
use Rattle.preflight.specs.Answers.Place.{Place}
use Rattle.preflight.specs.Answers.DatesAnswer.{Refused}

-- ---- one window, by the tests of its dates
module _ (w : Window) where
  pub invalid_by : (f e : Bool) → is_date w.first ≡ f → is_end w.end ≡ e → (not f || not e) ≡ invalid_dates w
  unfolding invalid_dates
  invalid_by f e p q = sym (λ i. not (p i) || not (q i))

  pub inverted_by : (b : Bool) → b ≡ earlier w.first w.end → not b ≡ inverted w
  unfolding inverted
  inverted_by b e = ap not e

  pub holds_by : (id : ℕ) (date : Date) (i p q : Bool) → eqb w.id id ≡ i → earlier date w.first ≡ p → earlier date w.end ≡ q
      → (i && not p && q) ≡ holds_date id date w
  unfolding holds_date
  holds_by id date i p q f g h = sym (λ k. f k && not (g k) && h k)

pub window_by : (words : List ℕ) (i : ℕ) (first end : Date) → first ≡ date_of (get_or words (3 * i + 1) 0) → end ≡ date_of (get_or words (3 * i + 2) 0)
    → ◌≡◌ {A = Window} (record { id = get_or words (3 * i) 0; first = first; end = end }) (window_at words i)
window_by words i first end f e = λ k. record { id = get_or words (3 * i) 0; first = f k; end = e k }

-- ---- the windows from the place i on, below n
module _ (test : Window → Bool) (words : List ℕ) (i n : ℕ) where
  pub some_end : n ≤ i → some_window test (windows_from words i (n - i)) ≡ false
  unfolding some_window windows_from
  some_end h =
      let e : n - i ≡ 0 = omega arith in
      ap (λ (k : ℕ). some_window test (windows_from words i k)) e

  pub some_turn : (t : Bool) → i < n → test (window_at words i) ≡ t
      → (t || some_window test (windows_from words (i + 1) (n - (i + 1)))) ≡ some_window test (windows_from words i (n - i))
  unfolding some_window windows_from
  some_turn t h e =
      let k : n - i ≡ suc (n - (i + 1)) = omega arith in
      ap (λ (b : Bool). b || some_window test (windows_from words (i + 1) (n - (i + 1)))) (sym e)
      ∙ sym (ap (λ (m : ℕ). some_window test (windows_from words i m)) k)

pub some_start : (test : Window → Bool) (words : List ℕ)
    → some_window test (windows_from words 0 (length words / 3 - 0)) ≡ some_window test (windows_in words)
some_start test words =
    let e : length words / 3 - 0 ≡ length words / 3 = omega arith in
    ap (λ (n : ℕ). some_window test (windows_from words 0 n)) e

-- ---- the answer, by the tests before it
pub dates_by : (windows : List Window) (round : List ℕ) (last date : Date) (p q b v : Bool) (x : Place)
    → is_date last ≡ p → is_date date ≡ q → some_window invalid_dates windows ≡ b → some_window inverted windows ≡ v
    → first_outside windows last date round ≡ x
    → cond (not p) (Refused 22) (cond (not q) (Refused 22) (cond b (Refused 22) (cond v (Refused 23) (of_outside x))))
    ≡ preflight_dates windows round last date
unfolding preflight_dates
dates_by windows round last date p q b v x ep eq eb ev ex =
    sym (λ i. cond (not (ep i)) (Refused 22) (cond (not (eq i)) (Refused 22) (cond (eb i) (Refused 22) (cond (ev i) (Refused 23) (of_outside (ex i))))))
