-- An input in pieces of any sizes leaves what the whole input leaves, where the room for a line is no shorter than the buffer. Assumes nothing.
use Prim.Native.Nat.{ℕ, ◌+◌, ◌≤◌, ◌<◌}
use native.Mathlib.Omega.{arith}
use native.Mathlib.Numerals.{add-one}
use mathlib.Core.Path.{◌≡◌, refl, sym, ap, ◌∙◌}
use mathlib.Core.Bool.{Bool, true, false, cond}
use mathlib.Core.List.{List, [], ◌∷◌, ◌++◌, append_assoc, append-nil}
use lib.ListN.{length, take, set, length-append, length-set}
use lib.Seq.{take-suc-set}
use lib.Dec.{eqb, ltb}
use borrow.Author.Tests.{ltb-true, ltb-false, eqb-true}
use Rattle.writer.specs.State.{State}
use Rattle.catalogue.specs.Lines.{after_put_line, after_input}
use Rattle.catalogue.specs.Steps.Pieces.{Gathering, started, gathered, line_ended, take_byte, take_piece, take_pieces, whole_input, input_ended, AnyPieces}
use Rattle.catalogue.proofs.Skipped.{long_line, line_length}
use Rattle.catalogue.proofs.InputLines.{NoFeed, no_feed_more, input_feed, input_last, input_cut}

-- the line at hand has the bytes p so far
pub record Holds (g : Gathering) (p : List ℕ) : Type 0 where
  pub short : g.have < length g.room → (g.have ≡ length p) × (take g.have g.room ≡ p)
  pub long : length g.room ≤ g.have → length g.room ≤ length p
  pub enough : g.state.writer.length ≤ length g.room

-- ---- a line that has ended

ended : (g : Gathering) (p : List ℕ) → Holds g p → (line_ended g).state ≡ after_put_line g.state p
unfolding line_ended
ended g p h = ended_by_length (ltb g.have (length g.room)) refl
  where
    ended_by_length : (t : Bool) → ltb g.have (length g.room) ≡ t
        → cond t (after_put_line g.state (take g.have g.room)) g.state ≡ after_put_line g.state p
    ended_by_length true e = ap (after_put_line g.state) (h.short (ltb-true g.have (length g.room) e)).1
    ended_by_length false e =
        let l = h.long (ltb-false g.have (length g.room) e) in
        let c = h.enough in
        sym (long_line g.state p (omega arith))

holds_ended : (g : Gathering) (p : List ℕ) → Holds g p → Holds (line_ended g) []
unfolding line_ended
holds_ended g p h =
    record {
      short = λ k. (refl, refl);
      long = λ k. k;
      enough =
          let e = ap (λ (s : State). s.writer.length) (ended g p h) ∙ line_length g.state p in
          let c = h.enough in
          omega arith;
    }

-- ---- one byte more

holds_more : (g : Gathering) (p : List ℕ) (b : ℕ) → Holds g p → Holds (gathered g b) (p ++ (b ∷ []))
unfolding gathered
holds_more g p b h = holds_by_length (ltb g.have (length g.room)) refl
  where
    same_length : length (set g.room g.have b) ≡ length g.room
    same_length = length-set g.room g.have b

    longer : length (p ++ (b ∷ [])) ≡ length p + 1
    longer = length-append p (b ∷ [])

    holds_by_length : (t : Bool) → ltb g.have (length g.room) ≡ t
        → Holds (record { state = g.state; room = set g.room g.have b; have = cond t (g.have + 1) g.have }) (p ++ (b ∷ []))
    holds_by_length true e =
        let k = ltb-true g.have (length g.room) e in
        let s = h.short k in
        let n = s.0 in
        let same = same_length in
        let more = longer in
        let c = h.enough in
        record {
          short = λ l. (
            omega arith,
            ap (λ (m : ℕ). take m (set g.room g.have b)) (add-one g.have)
                ∙ take-suc-set g.room g.have b k
                ∙ ap (λ (x : List ℕ). x ++ (b ∷ [])) s.1,
          );
          long = λ l. omega arith;
          enough = omega arith;
        }
    holds_by_length false e =
        let k = ltb-false g.have (length g.room) e in
        let l = h.long k in
        let same = same_length in
        let more = longer in
        let c = h.enough in
        record { short = λ m. absurd (omega arith); long = λ m. omega arith; enough = omega arith }

-- ---- the bytes of an input

abbrev Takes : List ℕ → Type 0
Takes xs = (g : Gathering) (p : List ℕ) → Holds g p → NoFeed p → input_ended (take_piece g xs) ≡ after_input g.state (p ++ xs)

takes_none : Takes []
unfolding take_piece input_ended
takes_none g p h n =
    ended g p h ∙ sym (input_last g.state p n) ∙ ap (after_input g.state) (sym (append-nil p))

takes_more : (b : ℕ) (xs : List ℕ) → Takes xs → Takes (b ∷ xs)
unfolding take_piece take_byte gathered
takes_more b xs ih g p h n = by_line_feed (eqb b 10) refl
  where
    by_line_feed : (t : Bool) → eqb b 10 ≡ t → input_ended (take_piece (cond t (line_ended g) (gathered g b)) xs) ≡ after_input g.state (p ++ b ∷ xs)
    by_line_feed true e =
        ih (line_ended g) [] (holds_ended g p h) tt
        ∙ ap (λ (s : State). after_input s xs) (ended g p h)
        ∙ sym (input_feed g.state p xs n)
        ∙ ap (λ (k : ℕ). after_input g.state (p ++ k ∷ xs)) (sym (eqb-true b 10 e))
    by_line_feed false e =
        ih (gathered g b) (p ++ (b ∷ [])) (holds_more g p b h) (no_feed_more p b n e)
        ∙ ap (after_input g.state) (append_assoc p (b ∷ []) xs)

takes : (xs : List ℕ) → Takes xs
takes [] = takes_none
takes (b ∷ xs) = takes_more b xs (takes xs)

-- ---- pieces

pub piece_append : (g : Gathering) (xs ys : List ℕ) → take_piece g (xs ++ ys) ≡ take_piece (take_piece g xs) ys
unfolding take_piece
piece_append g [] ys = refl
piece_append g (b ∷ xs) ys = piece_append (take_byte g b) xs ys

pieces_joined : (g : Gathering) (ps : List (List ℕ)) → take_pieces g ps ≡ take_piece g (whole_input ps)
unfolding take_pieces take_piece whole_input
pieces_joined g [] = refl
pieces_joined g (p ∷ ps) = pieces_joined (take_piece g p) ps ∙ sym (piece_append g p (whole_input ps))

pub in_one : (s : State) (room input : List ℕ) → s.writer.length ≤ length room → input_ended (take_piece (started s room) input) ≡ after_input s input
in_one s room input h = takes input (started s room) [] (record { short = λ k. (refl, refl); long = λ k. k; enough = h }) tt

in_pieces : (s : State) (room : List ℕ) (ps : List (List ℕ)) → s.writer.length ≤ length room
    → input_ended (take_pieces (started s room) ps) ≡ after_input s (whole_input ps)
in_pieces s room ps h = ap input_ended (pieces_joined (started s room) ps) ∙ in_one s room (whole_input ps) h

pub any_pieces : AnyPieces
any_pieces = record { whole = in_pieces; cut = input_cut; long = long_line }
