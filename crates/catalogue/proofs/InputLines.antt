-- An input split into its lines. Assumes nothing.
use Prim.Native.Nat.{ℕ}
use mathlib.Core.Path.{◌≡◌, refl, sym, ap, ◌∙◌}
use mathlib.Core.Bool.{Bool, true, false, cond}
use mathlib.Core.List.{List, [], ◌∷◌, ◌++◌, append_assoc, append-nil}
use lib.Dec.{eqb}
use borrow.Author.Tests.{eqb-true}
use Rattle.writer.specs.State.{State}
use Rattle.lists.specs.Calls.{after}
use Rattle.lists.proofs.CallLists.{after_append}
use Rattle.catalogue.specs.Lines.{with_byte, lines_of, leading_digits, parse_line, line_calls, lines_calls, input_calls, after_put_line, after_input}

-- bytes without a line feed
abbrev pub NoFeed : List ℕ → Type 0
NoFeed [] = Unit {0}
NoFeed (b ∷ bs) = (eqb b 10 ≡ false) × NoFeed bs

pub no_feed_more : (p : List ℕ) (b : ℕ) → NoFeed p → eqb b 10 ≡ false → NoFeed (p ++ (b ∷ []))
no_feed_more [] b h e = (e, tt)
no_feed_more (x ∷ xs) b h e = (h.0, no_feed_more xs b h.1 e)

-- ---- the first line

pub lines_feed : (p rest : List ℕ) → NoFeed p → lines_of (p ++ 10 ∷ rest) ≡ p ∷ lines_of rest
unfolding lines_of with_byte
lines_feed [] rest h = refl
lines_feed (b ∷ bs) rest h =
    ap (λ (t : Bool). cond t ([] ∷ lines_of (bs ++ 10 ∷ rest)) (with_byte b (lines_of (bs ++ 10 ∷ rest)))) h.0
    ∙ ap (with_byte b) (lines_feed bs rest h.1)

lines_last : (b : ℕ) (bs : List ℕ) → NoFeed (b ∷ bs) → lines_of (b ∷ bs) ≡ (b ∷ bs) ∷ []
unfolding lines_of with_byte
lines_last b [] h = ap (λ (t : Bool). cond t ([] ∷ []) ((b ∷ []) ∷ [])) h.0
lines_last b (x ∷ xs) h =
    ap (λ (t : Bool). cond t ([] ∷ lines_of (x ∷ xs)) (with_byte b (lines_of (x ∷ xs)))) h.0
    ∙ ap (with_byte b) (lines_last x xs h.1)

-- what an input leaves whose first line ends here
pub input_feed : (s : State) (p rest : List ℕ) → NoFeed p → after_input s (p ++ 10 ∷ rest) ≡ after_input (after_put_line s p) rest
unfolding after_input input_calls lines_calls after_put_line
input_feed s p rest h =
    ap (λ (ls : List (List ℕ)). after s (lines_calls ls)) (lines_feed p rest h) ∙ after_append s (line_calls p) (lines_calls (lines_of rest))

-- and one that has no line feed: an empty one has no line, which leaves what an empty line leaves
pub input_last : (s : State) (p : List ℕ) → NoFeed p → after_input s p ≡ after_put_line s p
unfolding after_input input_calls lines_calls lines_of after_put_line line_calls parse_line leading_digits
input_last s [] h = refl
input_last s (b ∷ bs) h =
    ap (λ (ls : List (List ℕ)). after s (lines_calls ls)) (lines_last b bs h) ∙ ap (after s) (append-nil (line_calls (b ∷ bs)))

-- ---- an input that is cut at a line's end, p being what the line at hand has before the first of xs

abbrev Cuts : List ℕ → Type 0
Cuts xs = (s : State) (p ys : List ℕ) → NoFeed p → after_input s (p ++ (xs ++ 10 ∷ ys)) ≡ after_input (after_input s (p ++ xs)) ys

cuts_none : Cuts []
cuts_none s p ys n =
    input_feed s p ys n ∙ ap (λ (t : State). after_input t ys) (sym (ap (after_input s) (append-nil p) ∙ input_last s p n))

cuts_more : (b : ℕ) (xs : List ℕ) → Cuts xs → Cuts (b ∷ xs)
cuts_more b xs ih s p ys n = by_line_feed (eqb b 10) refl
  where
    by_line_feed : (t : Bool) → eqb b 10 ≡ t → after_input s (p ++ b ∷ (xs ++ 10 ∷ ys)) ≡ after_input (after_input s (p ++ b ∷ xs)) ys
    by_line_feed true e =
        let f = eqb-true b 10 e in
        ap (λ (k : ℕ). after_input s (p ++ k ∷ (xs ++ 10 ∷ ys))) f
        ∙ input_feed s p (xs ++ 10 ∷ ys) n
        ∙ ih (after_put_line s p) [] ys tt
        ∙ ap (λ (t : State). after_input t ys) (sym (ap (λ (k : ℕ). after_input s (p ++ k ∷ xs)) f ∙ input_feed s p xs n))
    by_line_feed false e =
        ap (after_input s) (sym (append_assoc p (b ∷ []) (xs ++ 10 ∷ ys)))
        ∙ ih s (p ++ (b ∷ [])) ys (no_feed_more p b n e)
        ∙ ap (λ (l : List ℕ). after_input (after_input s l) ys) (append_assoc p (b ∷ []) xs)

cuts : (xs : List ℕ) → Cuts xs
cuts [] = cuts_none
cuts (b ∷ xs) = cuts_more b xs (cuts xs)

pub input_cut : (s : State) (xs ys : List ℕ) → after_input s (xs ++ 10 ∷ ys) ≡ after_input (after_input s xs) ys
input_cut s xs ys = cuts xs s [] ys tt
