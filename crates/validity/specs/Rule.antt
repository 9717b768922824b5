-- Names with a season: 02 (xiv). "A lent list of windows gives id, first date and end date, the end date not included."
use Rattle.std.specs.Prelude.{ℕ, Bool, false, cond, not, ◌&&◌, ◌||◌, List, [], ◌∷◌, eqb}
use Rattle.jhash.specs.Outcome.{Outcome, value, refusal}
use Rattle.reader.specs.Slices.{Slice, subslice}
use Rattle.reader.specs.Naming.{Naming, unnamed, naming, slice_or}
use Rattle.validity.specs.Calendar.{is_date, is_end, earlier}
use Rattle.validity.specs.declared.Date.{Date}
use Rattle.validity.specs.declared.Window.{Window}
use Rattle.jhash.specs.Refusals as refused

-- does the test hold of some window?
unfoldable pub some_window : (Window → Bool) → List Window → Bool
some_window test [] = false
some_window test (w ∷ ws) = test w || some_window test ws

-- "a date that doesn't exist or lies outside these bounds", of a window: its first date, or its end date
unfoldable pub invalid_dates : Window → Bool
invalid_dates w = not (is_date w.first) || not (is_end w.end)

-- "a window that doesn't start before its end"
unfoldable pub inverted : Window → Bool
inverted w = not (earlier w.first w.end)

-- a "window of that id holds the date": the first date included, "the end date not included"
unfoldable pub holds_date : ℕ → Date → Window → Bool
holds_date id date w = eqb w.id id && not (earlier date w.first) && earlier date w.end

-- of an id that the naming rule gives n: "gives its name exactly when it has one and some window of that id holds the
-- date, else nothing"; 22 "first [for] the one asked about and then those of the windows in list order; after these a
-- window that doesn't start before its end gives 23"
unfoldable pub in_season : Naming → ℕ → Date → List Window → Outcome Naming
in_season n id date windows =
    cond (not (is_date date)) (refusal refused.no_such_date)
    (cond (some_window invalid_dates windows) (refusal refused.no_such_date)
    (cond (some_window inverted windows) (refusal refused.not_before_end)
    (value (cond (some_window (holds_date id date) windows) n unnamed))))

-- "naming an id on a date", in an image
abbrev pub naming_on : List ℕ → ℕ → Date → List Window → Outcome Naming
naming_on image id date windows = in_season (naming image id) id date windows

-- the naming in an answer: a refused list names nothing
abbrev pub named_in : Outcome Naming → Naming
named_in (value n) = n
named_in (refusal k) = unnamed

-- the same as a returned part, empty if nothing or refused
abbrev pub name_part_on : Slice → ℕ → Date → List Window → Slice
name_part_on image id date windows =
    slice_or image (subslice image 0 0) (named_in (naming_on image.bytes id date windows))
