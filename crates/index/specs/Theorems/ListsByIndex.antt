-- Lists of calls by an index: 01, "Whole lists (demand 3)", where each put is a put by the index, the buffer may grow
-- and the index be made anew. Each call is lent record, counts, buffer and slots as the call before left them. It
-- speaks of demand 3's definitions: `answers_of`, `after_list`, `due`.
use Rattle.std.specs.Prelude.{ℕ, ◌≤◌, ◌≡◌, true, cond, ◌&&◌, List, [], ◌∷◌, ◌++◌, map, length, replicate, eqb, ltb}
use Rattle.std.specs.Prelude.{leb}
use Rattle.jhash.specs.Refusals as refused
use Rattle.image.specs.declared.Mode.{Mode}
use Rattle.image.specs.Image.{Entry, head_size}
use Rattle.writer.specs.declared.Repeats.{Repeats}
use Rattle.writer.specs.State.{State, fresh, refuses_repeats}
use Rattle.writer.specs.Close.{close_refusal, after_close, closed_image}
use Rattle.writer.specs.Grown.{grown_refusal}
use Rattle.lists.specs.Calls.{Call, put, close, put_all, accepted_one, accepted_by, accepted_after, put_due, due}
use Rattle.lists.specs.Calls.{WordIds}
use Rattle.lists.specs.Demand3.{answers_of, after_list, accepted_puts, image_of}
use Rattle.lists.specs.Theorems.LongerBuffer.{moved_to, Longer}
use Rattle.index.specs.Index.{slot_count, Right}
use Rattle.index.specs.Promise.{PutIndexed, Indexed}

-- ---- a run

-- a step of a list: a put or a close; the entries stand in a longer buffer, and grown takes its length; the index is
-- made anew in other words, whatever they hold
pub data Step : Type 0 where
  call : Call → Step
  grow : List ℕ → Step
  anew : List ℕ → Step

-- its puts and closes
abbrev pub calls_of : List Step → List Call
calls_of [] = []
calls_of (call c ∷ cs) = c ∷ calls_of cs
calls_of (grow longer ∷ cs) = calls_of cs
calls_of (anew lent ∷ cs) = calls_of cs

-- a run of a list: each put keeps the promise of put_indexed, making an index that of index, close and grown are
-- answered and leave what their rules say; where the index is refused the old one stays. rs are the refusals' numbers,
-- t and words' what the last step leaves
abbrev pub Run : State → List ℕ → List Step → List ℕ → State → List ℕ → Type 0
Run s words [] [] t words' = (t ≡ s) × (words' ≡ words)
Run s words [] (r ∷ rs) t words' = ⊥
Run s words (c ∷ cs) [] t words' = ⊥
Run s words (call (put e) ∷ cs) (r ∷ rs) t words' =
    (u : State) × (mid : List ℕ) × (PutIndexed s words e r u mid) × Run u mid cs rs t words'
Run s words (call close ∷ cs) (r ∷ rs) t words' = (r ≡ close_refusal s) × Run (after_close s) words cs rs t words'
Run s words (grow longer ∷ cs) (r ∷ rs) t words' =
    Longer longer s × (r ≡ grown_refusal s.writer (length longer)) × Run (moved_to longer s) words cs rs t words'
Run s words (anew lent ∷ cs) (r ∷ rs) t words' =
    (made : List ℕ) × (Indexed s lent r made) × Run s (cond (eqb r 0) made words) cs rs t words'

-- ---- what is due

-- the refusal that is due to a call by an index of m slots after the accepted puts es: demand 3's, and with repeats off
-- 24 where a put would be accepted and m puts are
abbrev pub due_to_indexed : ℕ → Mode → Repeats → ℕ → List Entry → Call → ℕ
due_to_indexed m mode repeats n es (put e) =
    cond (refuses_repeats repeats && (eqb (put_due mode repeats n es e) 0 && leb m (length es))) refused.index_full
    (put_due mode repeats n es e)
due_to_indexed m mode repeats n es close = 0

-- to making an index of m slots: 24 when more puts are accepted
abbrev pub due_to_anew : ℕ → List Entry → ℕ
due_to_anew m es = cond (ltb m (length es)) refused.index_full 0

-- a buffer that grows changes its length n, an index made anew the number m of slots
unfoldable pub due_indexed : ℕ → Mode → Repeats → ℕ → List Entry → List Step → List ℕ
due_indexed m mode repeats n es [] = []
due_indexed m mode repeats n es (call c ∷ cs) =
    due_to_indexed m mode repeats n es c
    ∷ due_indexed m mode repeats n (es ++ accepted_one c (due_to_indexed m mode repeats n es c)) cs
due_indexed m mode repeats n es (grow longer ∷ cs) = 0 ∷ due_indexed m mode repeats (length longer) es cs
due_indexed m mode repeats n es (anew lent ∷ cs) =
    due_to_anew (slot_count lent) es
    ∷ due_indexed (cond (eqb (due_to_anew (slot_count lent) es) 0) (slot_count lent) m) mode repeats n es cs

-- ---- the list without an index

-- a list of demand 3: its buffer, its calls and their answers
pub record Plain : Type 0 where
  pub buffer : List ℕ
  pub calls : List Call
  pub answers : List ℕ

-- what a run comes to: its calls without those answered by 24. Where the buffer grows, a list that begins in the longer
-- one with the accepted puts (`LongerBuffer`); making an index is no call of it
abbrev pub plain_after : Plain → Step → ℕ → Plain
plain_after l (call c) r =
    cond (eqb r refused.index_full) l
    (record { buffer = l.buffer; calls = l.calls ++ (c ∷ []); answers = l.answers ++ (r ∷ []) })
plain_after l (grow longer) r =
    record {
      buffer = longer;
      calls = put_all (accepted_by l.calls l.answers);
      answers = replicate (length (accepted_by l.calls l.answers)) 0;
    }
plain_after l (anew lent) r = l

unfoldable pub plain_from : Plain → List Step → List ℕ → Plain
plain_from l [] rs = l
plain_from l (c ∷ cs) [] = l
plain_from l (c ∷ cs) (r ∷ rs) = plain_from (plain_after l c r) cs rs

-- from a fresh record on
abbrev pub plain_of : List ℕ → List Step → List ℕ → Plain
plain_of buffer cs rs = plain_from (record { buffer = buffer; calls = []; answers = [] }) cs rs

-- ---- a slot for each put

-- by the puts that demand 3 accepts, each index has a slot for each of them until it is made anew; with repeats on a
-- put needs none
abbrev pub Enough : ℕ → Mode → Repeats → ℕ → List Entry → List Step → Type 0
Enough m mode repeats n es [] = Unit {0}
Enough m mode repeats n es (call c ∷ cs) =
    (refuses_repeats repeats ≡ true → length (accepted_after mode repeats n es c) ≤ m)
    × Enough m mode repeats n (accepted_after mode repeats n es c) cs
Enough m mode repeats n es (grow longer ∷ cs) = Enough m mode repeats (length longer) es cs
Enough m mode repeats n es (anew lent ∷ cs) =
    (length es ≤ slot_count lent) × Enough (slot_count lent) mode repeats n es cs

-- no call is answered by 24
abbrev pub NoneFull : List ℕ → Type 0
NoneFull [] = Unit {0}
NoneFull (r ∷ rs) = (r ≡ refused.index_full → ⊥) × NoneFull rs

-- ---- the theorem

-- what holds of one run from a fresh record and a right index of it, as cleared slots are (`KeptRight.fresh_right`)
pub record RunByIndex (mode : Mode) (repeats : Repeats) (buffer words : List ℕ) (cs : List Step) (rs : List ℕ)
    (t : State) (words' : List ℕ) : Type 0 where
  -- each step is answered as is due
  pub answered : rs ≡ due_indexed (slot_count words) mode repeats (length buffer) [] cs
  -- the list of demand 3 that it comes to has, by puts without an index, the same answers, and leaves the same
  pub same_answers : answers_of mode repeats (plain_of buffer cs rs).buffer (plain_of buffer cs rs).calls
      ≡ (plain_of buffer cs rs).answers
  pub leaves : t ≡ after_list mode repeats (plain_of buffer cs rs).buffer (plain_of buffer cs rs).calls
  -- and the index is right
  pub right : Right t words'
  -- with a slot for each put that demand 3 accepts, no call is answered by 24, and so none is left out
  pub enough : Enough (slot_count words) mode repeats (length buffer) [] cs → NoneFull rs

-- of puts and closes alone, with a slot for each put that demand 3 accepts: answers, state and the image of one more
-- close are those of the list without an index, so that every clause of demand 3 holds of them
pub record RunOfCalls (mode : Mode) (repeats : Repeats) (buffer : List ℕ) (cs : List Call) (rs : List ℕ)
    (t : State) : Type 0 where
  pub due_is : rs ≡ due mode repeats (length buffer) cs
  pub answers : rs ≡ answers_of mode repeats buffer cs
  pub leaves : t ≡ after_list mode repeats buffer cs
  pub image : closed_image t ≡ image_of mode repeats buffer cs

pub record ListsByIndex : Type 0 where
  -- for every list, two-way or one-way, with either choice of repeats, on a buffer of 2,072 bytes or more
  pub runs : (mode : Mode) (repeats : Repeats) (buffer words : List ℕ) (cs : List Step) (rs : List ℕ) (t : State)
      (words' : List ℕ) → head_size ≤ length buffer → WordIds mode (calls_of cs)
      → Right (fresh mode repeats buffer) words
      → Run (fresh mode repeats buffer) words cs rs t words'
      → RunByIndex mode repeats buffer words cs rs t words'
  pub calls : (mode : Mode) (repeats : Repeats) (buffer words : List ℕ) (cs : List Call) (rs : List ℕ) (t : State)
      (words' : List ℕ) → head_size ≤ length buffer → WordIds mode cs
      → Right (fresh mode repeats buffer) words
      → Run (fresh mode repeats buffer) words (map call cs) rs t words'
      → (refuses_repeats repeats ≡ true → length (accepted_puts mode repeats buffer cs) ≤ slot_count words)
      → RunOfCalls mode repeats buffer cs rs t
  -- with repeats off, once every slot is taken, each later put that would be accepted gets 24, and the other refusals
  -- stay what they are
  pub from_then : (m : ℕ) (mode : Mode) (repeats : Repeats) (n : ℕ) (es : List Entry) (cs : List Call)
      → refuses_repeats repeats ≡ true → m ≤ length es
      → due_indexed m mode repeats n es (map call cs) ≡ map (due_to_indexed m mode repeats n es) cs
