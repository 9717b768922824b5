-- The lines of an input, and the puts that they ask for: 01, "Examples from the quay", the paragraph on the
-- demonstration program.
use Rattle.std.specs.Prelude.{ℕ, suc, ◌+◌, ◌*◌, ◌-◌, Bool, cond, ◌&&◌, List, [], ◌∷◌, ◌++◌}
use Rattle.std.specs.Prelude.{get_or, take, drop, eqb, leb}
use Rattle.writer.specs.State.{State}
use Rattle.writer.specs.Put.{entry_of}
use Rattle.lists.specs.Calls.{Call, put, after}

-- lines, the first of which has this byte in front
unfoldable pub with_byte : ℕ → List (List ℕ) → List (List ℕ)
with_byte b [] = (b ∷ []) ∷ []
with_byte b (l ∷ ls) = (b ∷ l) ∷ ls

-- the lines of an input: each ends at its line feed (10), which is no part of it, or at the input's end. After a
-- final line feed there is no line
unfoldable pub lines_of : List ℕ → List (List ℕ)
lines_of [] = []
lines_of (b ∷ bs) = cond (eqb b 10) ([] ∷ lines_of bs) (with_byte b (lines_of bs))

-- the digits 0 to 9
abbrev pub is_digit : ℕ → Bool
is_digit b = leb 48 b && leb b 57

-- how many digits a line begins with
unfoldable pub leading_digits : List ℕ → ℕ
leading_digits [] = 0
leading_digits (b ∷ bs) = cond (is_digit b) (suc (leading_digits bs)) 0

-- the number that digits write, the most significant first; v is what those before them wrote
unfoldable pub number_from : ℕ → List ℕ → ℕ
number_from v [] = v
number_from v (b ∷ bs) = number_from (v * 10 + (b - 48)) bs

abbrev pub decimal : List ℕ → ℕ
decimal digits = number_from 0 digits

-- a line has an id and a name, which begins at an offset of the line; or it is of another form
pub data Form : Type 0 where
  entry : ℕ → ℕ → Form
  other : Form

-- decimal id, space (32), name. The id has 1 to 10 digits and is at most 4294967295; the name is the rest, spaces
-- included, and may be empty
abbrev pub form_with : List ℕ → ℕ → Form
form_with line n =
    cond (leb 1 n && leb n 10 && eqb (get_or line n 0) 32 && leb (decimal (take n line)) 4294967295)
    (entry (decimal (take n line)) (n + 1)) other

unfoldable pub parse_line : List ℕ → Form
parse_line line = form_with line (leading_digits line)

-- the put that a line asks for; a line of another form is skipped
abbrev pub calls_by : List ℕ → Form → List Call
calls_by line (entry id at) = put (entry_of (drop at line) id) ∷ []
calls_by line other = []

unfoldable pub line_calls : List ℕ → List Call
line_calls line = calls_by line (parse_line line)

-- and those that lines ask for, in their order
unfoldable pub lines_calls : List (List ℕ) → List Call
lines_calls [] = []
lines_calls (l ∷ ls) = line_calls l ++ lines_calls ls

-- the puts of an input, a list of calls as in demand 3
unfoldable pub input_calls : List ℕ → List Call
unfolding lines_of lines_calls
input_calls input = lines_calls (lines_of input)

-- what a line leaves of a writer record and its buffer: a line whose put is refused is skipped, since a refused put
-- leaves all as it was
unfoldable pub after_put_line : State → List ℕ → State
unfolding line_calls
after_put_line s line = after s (line_calls line)

-- what an input leaves
unfoldable pub after_input : State → List ℕ → State
unfolding input_calls
after_input s input = after s (input_calls input)
