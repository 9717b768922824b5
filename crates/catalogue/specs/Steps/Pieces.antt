-- An input that comes in pieces, as the code takes it. No rule of 01 stands here: proofs/WholeInput shows that pieces
-- of any sizes leave what specs/Lines says that the whole input leaves.
use Rattle.std.specs.Prelude.{ℕ, ◌+◌, ◌≤◌, ◌≡◌, cond, List, [], ◌∷◌, ◌++◌, length, take, set, eqb, ltb}
use Rattle.writer.specs.State.{State, state_with}
use Rattle.catalogue.specs.declared.Intake.{Intake}
use Rattle.catalogue.specs.Lines.{after_put_line, after_input}

-- what is kept between the pieces: the writer record and its buffer, the room in which the line at hand is gathered,
-- and how many of its bytes have come, or the room's length where the line fills it or is longer
pub record Gathering : Type 0 where
  pub state : State
  pub room : List ℕ
  pub have : ℕ

-- what a call is lent, and what it leaves
abbrev pub gathering : Intake → List ℕ → List ℕ → List ℕ → Gathering
gathering t counts buffer room = record { state = state_with t.writer counts buffer; room = room; have = t.have }

-- at an input's start
abbrev pub started : State → List ℕ → Gathering
started s room = record { state = s; room = room; have = 0 }

-- one byte more of the line at hand: it is stored and counted while there is room (`set` past the end of a list
-- changes nothing)
abbrev pub have_after : List ℕ → ℕ → ℕ
have_after room have = cond (ltb have (length room)) (have + 1) have

unfoldable pub gathered : Gathering → ℕ → Gathering
gathered g b = record { state = g.state; room = set g.room g.have b; have = have_after g.room g.have }

-- the line at hand has ended; one that fills the room is dropped
unfoldable pub line_ended : Gathering → Gathering
line_ended g =
    record {
      state = cond (ltb g.have (length g.room)) (after_put_line g.state (take g.have g.room)) g.state;
      room = g.room;
      have = 0;
    }

unfoldable pub take_byte : Gathering → ℕ → Gathering
take_byte g b = cond (eqb b 10) (line_ended g) (gathered g b)

-- the bytes of a piece, one after the other
unfoldable pub take_piece : Gathering → List ℕ → Gathering
take_piece g [] = g
take_piece g (b ∷ bs) = take_piece (take_byte g b) bs

-- pieces
unfoldable pub take_pieces : Gathering → List (List ℕ) → Gathering
take_pieces g [] = g
take_pieces g (p ∷ ps) = take_pieces (take_piece g p) ps

-- the input that they make up
unfoldable pub whole_input : List (List ℕ) → List ℕ
whole_input [] = []
whole_input (p ∷ ps) = p ++ whole_input ps

-- the input's end ends the last line, too
unfoldable pub input_ended : Gathering → State
unfolding line_ended
input_ended g = (line_ended g).state

-- what holds of every input
pub record AnyPieces : Type 0 where
  -- in whatever pieces it comes, they leave what the rule of 01 leaves of the whole, where the room for a line is no
  -- shorter than the buffer
  pub whole : (s : State) (room : List ℕ) (ps : List (List ℕ)) → s.writer.length ≤ length room
      → input_ended (take_pieces (started s room) ps) ≡ after_input s (whole_input ps)
  -- by the rule itself, an input that is cut at a line feed is put part by part
  pub cut : (s : State) (xs ys : List ℕ) → after_input s (xs ++ 10 ∷ ys) ≡ after_input (after_input s xs) ys
  -- and a line that is as long as the buffer is skipped: its put is refused, or it is of another form
  pub long : (s : State) (line : List ℕ) → s.writer.length ≤ length line → after_put_line s line ≡ s
