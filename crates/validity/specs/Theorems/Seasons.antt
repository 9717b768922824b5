-- What is proved of names with a season (`seasons` in proofs/Theorem): the sentences of 02 (xiv). For all images,
-- ids, dates and lists of windows.
use Rattle.std.specs.Prelude.{ℕ, ◌≤◌, ◌<◌, ◌≡◌, ◌↔◌, ◌⊎◌, Bool, true, false, List, ◌∷◌, ◌++◌}
use Rattle.std.proofs.Math.Option.{some}
use Rattle.std.proofs.Math.ListN.{get_elem?}
use Rattle.jhash.specs.Outcome.{value, refusal}
use Rattle.reader.specs.Naming.{place, naming}
use Rattle.validity.specs.Calendar.{month_length, is_date, is_end, earlier}
use Rattle.validity.specs.Rule.{some_window, invalid_dates, inverted, holds_date, naming_on}
use Rattle.validity.specs.Windows.{window_state, place_by_state}
use Rattle.validity.specs.declared.Date.{Date}
use Rattle.validity.specs.declared.Window.{Window}

-- the test holds of the window at some place of the list
abbrev pub SomeAt : (Window → Bool) → List Window → Type 0
SomeAt test windows = (k : ℕ) × (w : Window) × (get_elem? windows k ≡ some w) × (test w ≡ true)

-- nothing is refused: the date asked about and all dates of the windows exist within the bounds, and every window
-- starts before its end
abbrev pub WindowsAccepted : Date → List Window → Type 0
WindowsAccepted date windows =
    (is_date date ≡ true) × (some_window invalid_dates windows ≡ false) × (some_window inverted windows ≡ false)

pub record Seasons : Type 0 where
  -- "month lengths run from 28 to 31"; another number than 1 to 12 is no month, and has no day
  pub month_lengths : (year month : ℕ) → 1 ≤ month → month ≤ 12
      → (28 ≤ month_length year month) × (month_length year month ≤ 31)
  pub no_other_month : (year month : ℕ) → (month < 1) ⊎ (12 < month) → month_length year month ≡ 0
  -- the order of dates is strict and total
  pub irreflexive : (a : Date) → earlier a a ≡ false
  pub transitive : (a b c : Date) → earlier a b ≡ true → earlier b c ≡ true → earlier a c ≡ true
  pub total : (a b : Date) → (earlier a b ≡ true) ⊎ ((a ≡ b) ⊎ (earlier b a ≡ true))
  -- "some window": one that stands in the list
  pub some_window_lem : (test : Window → Bool) (windows : List Window)
      → (some_window test windows ≡ true) ↔ SomeAt test windows
  -- a "window of that id holds the date": the first date included, "the end date not included"
  pub holds_exactly : (id : ℕ) (date : Date) (w : Window)
      → (holds_date id date w ≡ true)
      ↔ ((w.id ≡ id) × (earlier date w.first ≡ false) × (earlier date w.end ≡ true))
  -- "gives its name exactly when it has one and some window of that id holds the date": a name on a date is the name
  -- of the naming rule
  pub named_exactly : (image : List ℕ) (id : ℕ) (date : Date) (windows : List Window) (start length : ℕ)
      → (naming_on image id date windows ≡ value (place start length))
      ↔ (WindowsAccepted date windows × (naming image id ≡ place start length)
      × (some_window (holds_date id date) windows ≡ true))
  -- 22 for "a date that doesn't exist or lies outside these bounds", the one asked about or a window's; "after these"
  -- 23
  pub gives_22 : (image : List ℕ) (id : ℕ) (date : Date) (windows : List Window)
      → (naming_on image id date windows ≡ refusal 22)
      ↔ ((is_date date ≡ false) ⊎ (some_window invalid_dates windows ≡ true))
  pub gives_23 : (image : List ℕ) (id : ℕ) (date : Date) (windows : List Window)
      → (naming_on image id date windows ≡ refusal 23)
      ↔ ((is_date date ≡ true) × (some_window invalid_dates windows ≡ false)
      × (some_window inverted windows ≡ true))
  -- what the windows say, and what is answered where they say it, are the rule in two parts
  pub in_two_parts : (image : List ℕ) (id : ℕ) (date : Date) (windows : List Window)
      → place_by_state image id date (window_state id date windows) ≡ naming_on image id date windows
  -- "adding a window whose dates exist within these bounds, the first before the end, never removes a name on any
  -- date", at any place of the list
  pub adding : (image : List ℕ) (id : ℕ) (date : Date) (before after : List Window) (w : Window)
      (start length : ℕ)
      → is_date w.first ≡ true → is_end w.end ≡ true → earlier w.first w.end ≡ true
      → naming_on image id date (before ++ after) ≡ value (place start length)
      → naming_on image id date (before ++ w ∷ after) ≡ value (place start length)
