-- Lists of calls: 01, "Whole lists (demand 3)". A list is defined twice: by the rules of the single calls, each lent
-- record and buffer as the call before left them (`after`, `answers`); and by the calls and the buffer's length alone
-- (`accepted`, `due`). Demand 3 says that both agree.
use Rattle.std.specs.Prelude.{ℕ, ◌+◌, ◌*◌, ◌^◌, ◌<◌, ◌≡◌, ◌⊎◌, cond, ◌&&◌, List, [], ◌∷◌, ◌++◌, length, eqb}
use Rattle.jhash.specs.Refusals as refused
use Rattle.image.specs.declared.Mode.{Mode}
use Rattle.image.specs.declared.Mode.TheVariants.{Twoway, Oneway}
use Rattle.image.specs.Image.{Entry, back_size, back_in, contains_name}
use Rattle.image.specs.Zero.{has_zero}
use Rattle.writer.specs.declared.Repeats.{Repeats}
use Rattle.writer.specs.State.{State, refuses_repeats, too_large}
use Rattle.writer.specs.Put.{put_refusal, after_put}
use Rattle.writer.specs.Close.{close_refusal, after_close}

-- a list has put and close calls in any number and order
pub data Call : Type 0 where
  put : Entry → Call
  close : Call

-- a list of puts, one for each of these entries
unfoldable pub put_all : List Entry → List Call
put_all [] = []
put_all (e ∷ es) = put e ∷ put_all es

-- what a call leaves, by the rules of "Writing" and "When a call is refused"
abbrev pub after_call : State → Call → State
after_call s (put e) = after_put s e
after_call s close = after_close s

-- what it answers: the number of its refusal, 0 for none
abbrev pub answer : State → Call → ℕ
answer s (put e) = put_refusal s e
answer s close = close_refusal s

-- each call is lent record and buffer as the call before left them; refused ones stay in the list
unfoldable pub after : State → List Call → State
after s [] = s
after s (c ∷ cs) = after (after_call s c) cs

-- the answers of the calls, in their order
unfoldable pub answers : State → List Call → List ℕ
answers s [] = []
answers s (c ∷ cs) = answer s c ∷ answers (after_call s c) cs

-- a put is accepted when its answer is no refusal: the puts of a list of calls that these answers accept, in their
-- order
abbrev pub accepted_one : Call → ℕ → List Entry
accepted_one (put e) r = cond (eqb r 0) (e ∷ []) []
accepted_one close r = []

unfoldable pub accepted_by : List Call → List ℕ → List Entry
accepted_by [] rs = []
accepted_by (c ∷ cs) [] = []
accepted_by (c ∷ cs) (r ∷ rs) = accepted_one c r ++ accepted_by cs rs

-- 25 + name length for each accepted put
unfoldable pub puts_size : List Entry → ℕ
puts_size [] = 0
puts_size (e ∷ es) = 25 + length e.name + puts_size es

-- the finished size (01's term) follows from the calls: 2,072, plus 25 + name length for each accepted put, plus 4 ×
-- (the largest id of these + 1) if there are any (`back_size`, which is 0 without any). In one-way mode the last term
-- is 0
unfoldable pub size_of : Mode → List Entry → ℕ
size_of mode es = 2072 + puts_size es + 4 * back_in mode (back_size es)

-- the refusal that is due to a put after the accepted puts es, in a buffer of n bytes: 13 for a zero byte in the name
-- (02 (v)); then, with repeats off, 16 when an accepted put before it has this name (02 (viii)); then 3 when the
-- size, which counts the put at hand, exceeds either limit. 0: none
unfoldable pub put_due : Mode → Repeats → ℕ → List Entry → Entry → ℕ
put_due mode repeats n es e =
    cond (has_zero e.name) refused.zero_byte
    (cond (contains_name e.name es && refuses_repeats repeats) refused.repeated
    (cond (too_large n (size_of mode (es ++ (e ∷ [])))) refused.no_room 0))

-- the refusal that is due to a call: none to a close
abbrev pub due_to : Mode → Repeats → ℕ → List Entry → Call → ℕ
due_to mode repeats n es (put e) = put_due mode repeats n es e
due_to mode repeats n es close = 0

-- the accepted puts after one call more
abbrev pub accepted_after : Mode → Repeats → ℕ → List Entry → Call → List Entry
accepted_after mode repeats n es c = es ++ accepted_one c (due_to mode repeats n es c)

unfoldable pub accepted_from : Mode → Repeats → ℕ → List Entry → List Call → List Entry
accepted_from mode repeats n es [] = es
accepted_from mode repeats n es (c ∷ cs) = accepted_from mode repeats n (accepted_after mode repeats n es c) cs

unfoldable pub due_from : Mode → Repeats → ℕ → List Entry → List Call → List ℕ
due_from mode repeats n es [] = []
due_from mode repeats n es (c ∷ cs) =
    due_to mode repeats n es c ∷ due_from mode repeats n (accepted_after mode repeats n es c) cs

-- the accepted puts of a list of calls, and the refusal due to each call, by the buffer's length and the calls alone
unfoldable pub accepted : Mode → Repeats → ℕ → List Call → List Entry
accepted mode repeats n cs = accepted_from mode repeats n [] cs

unfoldable pub due : Mode → Repeats → ℕ → List Call → List ℕ
due mode repeats n cs = due_from mode repeats n [] cs

-- no call of a list gives 2 or 4, and no close is refused there: a put may be answered by 0, 13, 16 or 3, a close by
-- 0, and there is one answer for each call
abbrev pub Permitted : Call → ℕ → Type 0
Permitted (put e) r = (r ≡ 0) ⊎ ((r ≡ refused.zero_byte) ⊎ ((r ≡ refused.repeated) ⊎ (r ≡ refused.no_room)))
Permitted close r = r ≡ 0

abbrev pub AllPermitted : List Call → List ℕ → Type 0
AllPermitted [] [] = Unit {0}
AllPermitted [] (r ∷ rs) = ⊥
AllPermitted (c ∷ cs) [] = ⊥
AllPermitted (c ∷ cs) (r ∷ rs) = Permitted c r × AllPermitted cs rs

-- a put is handed an id that is a word. Of a one-way list this has to be said; a two-way one needs no such premise,
-- since its size bounds the ids
abbrev pub WordId : Mode → Call → Type 0
WordId Twoway c = Unit {0}
WordId Oneway (put e) = e.id < 2 ^ 32
WordId Oneway close = Unit {0}

abbrev pub WordIds : Mode → List Call → Type 0
WordIds mode [] = Unit {0}
WordIds mode (c ∷ cs) = WordId mode c × WordIds mode cs

-- the puts of a list, refused ones included
unfoldable pub puts : List Call → List Entry
puts [] = []
puts (put e ∷ cs) = e ∷ puts cs
puts (close ∷ cs) = puts cs
