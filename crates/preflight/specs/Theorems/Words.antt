-- Windows as words (`words_read` in proofs/Words): what is laid out so in memory is read back.
use Rattle.std.specs.Prelude.{ℕ, ◌+◌, ◌*◌, ◌<◌, ◌≡◌, List, [], ◌∷◌}
use Rattle.image.specs.Bytes.{Each}
use Rattle.validity.specs.declared.Date.{Date}
use Rattle.validity.specs.declared.Window.{Window}
use Rattle.preflight.specs.Dates.{windows_in}

-- a year of 16 bits, a month and a day of 8 bits, the lowest first
abbrev pub word_of : Date → ℕ
word_of d = d.year + 65536 * d.month + 16777216 * d.day

unfoldable pub words_of : List Window → List ℕ
words_of [] = []
words_of (w ∷ ws) = w.id ∷ word_of w.first ∷ word_of w.end ∷ words_of ws

-- a year fits 16 bits, month and day 8, as in the struct
pub record Fits (d : Date) : Type 0 where
  pub year : d.year < 65536
  pub month : d.month < 256
  pub day : d.day < 256

abbrev pub WordsRead : Type 0
WordsRead = (windows : List Window) → Each (λ (w : Window). Fits w.first × Fits w.end) windows
    → windows_in (words_of windows) ≡ windows
