-- A piece taken byte by byte, and what the calls on the way leave. Assumes nothing.
use Prim.Native.Nat.{ℕ, ◌+◌, ◌≤◌, ◌<◌}
use native.Mathlib.Numerals.{add-one}
use mathlib.Core.Path.{◌≡◌, sym, ap, ◌∙◌}
use mathlib.Core.Bool.{Bool, cond}
use mathlib.Core.List.{List}
use lib.ListN.{length, get_or, take, drop, set, drop_of_length-le}
use lib.Seq.{drop-cons}
use borrow.Author.Tests.{lt-ltb, le-ltb, eq-eqb, ne_eqb}
use Rattle.writer.specs.State.{State}
use Rattle.writer.specs.Put.{entry_of, after_put}
use Rattle.catalogue.specs.Lines.{after_put_line}
use Rattle.catalogue.specs.Steps.Contracts.{Parsed}
use Rattle.catalogue.specs.Steps.Pieces.{Gathering, have_after, gathered, line_ended, take_byte, take_piece}
use Rattle.catalogue.proofs.Skipped.{after_entry}

-- a line's put: it leaves `after`
pub put_parsed : (s after : State) (line : List ℕ) (id : ℕ) (name : List ℕ) → Parsed line id name → after ≡ after_put s (entry_of name id)
    → after ≡ after_put_line s line
put_parsed s after line id name p put =
    put ∙ ap (λ (n : List ℕ). after_put s (entry_of n id)) p.named ∙ sym (after_entry s line id p.at p.form)

-- the line at hand, ended: put where it has room, dropped where it has not
module _ (s : State) (room : List ℕ) (have : ℕ) where
  pub ended_put : (t : State) → have < length room → t ≡ after_put_line s (take have room)
      → ◌≡◌ {A = Gathering} (record { state = t; room = room; have = 0 }) (line_ended (record { state = s; room = room; have = have }))
  unfolding line_ended
  ended_put t h e =
      ap {B = Gathering} (λ (x : State). record { state = x; room = room; have = 0 })
      (e ∙ sym (ap (λ (b : Bool). cond b (after_put_line s (take have room)) s) (lt-ltb have (length room) h)))

  pub ended_dropped : length room ≤ have
      → ◌≡◌ {A = Gathering} (record { state = s; room = room; have = 0 }) (line_ended (record { state = s; room = room; have = have }))
  unfolding line_ended
  ended_dropped h =
      ap {B = Gathering} (λ (x : State). record { state = x; room = room; have = 0 })
      (sym (ap (λ (b : Bool). cond b (after_put_line s (take have room)) s) (le-ltb have (length room) h)))

  -- one byte: a line feed, or one more of the line
  pub byte_feed : (b : ℕ) (g : Gathering) → b ≡ 10 → g ≡ line_ended (record { state = s; room = room; have = have })
      → g ≡ take_byte (record { state = s; room = room; have = have }) b
  unfolding take_byte
  byte_feed b g e f = rw (eq-eqb b 10 e) f

  pub byte_more : (b n : ℕ) (after : List ℕ) → (b ≡ 10 → ⊥) → n ≡ have_after room have → after ≡ set room have b
      → ◌≡◌ {A = Gathering} (record { state = s; room = after; have = n }) (take_byte (record { state = s; room = room; have = have }) b)
  unfolding take_byte gathered
  byte_more b n after e f h = rw (ne_eqb b 10 e) (λ i. record { state = s; room = h i; have = f i })

-- a turn, and the end
pub piece_turn : (g : Gathering) (piece : List ℕ) (i : ℕ) → i < length piece
    → take_piece g (drop i piece) ≡ take_piece (take_byte g (get_or piece i 0)) (drop (i + 1) piece)
unfolding take_piece
piece_turn g piece i h =
    ap (take_piece g) (drop-cons piece i 0 h) ∙ ap (λ (k : ℕ). take_piece (take_byte g (get_or piece i 0)) (drop k piece)) (sym (add-one i))

pub piece_end : (g : Gathering) (piece : List ℕ) (i : ℕ) → length piece ≤ i → take_piece g (drop i piece) ≡ g
unfolding take_piece
piece_end g piece i h = ap (take_piece g) (drop_of_length-le piece h)
