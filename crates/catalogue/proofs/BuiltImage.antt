-- From begin over the puts of an input to close: the image that the program prints from. Assumes nothing.
use Prim.Native.Nat.{ℕ, ◌≤◌}
use native.Mathlib.Omega.{arith}
use mathlib.Core.Path.{◌≡◌, sym, ap, ◌∙◌}
use mathlib.Core.List.{List}
use lib.ListN.{length, take, length-take}
use Rattle.jhash.specs.Outcome.{Outcome, value, refusal}
use Rattle.image.specs.declared.Mode.TheVariants.{Twoway}
use Rattle.image.specs.Image.{head_size}
use Rattle.writer.specs.declared.Repeats.TheVariants.{Off}
use Rattle.writer.specs.State.{State, state_with, fresh, beginning, counts_begun}
use Rattle.writer.specs.Close.{closed_size, closing, after_close}
use Rattle.writer.specs.declared.CQDBWriter.{CQDBWriter}
use Rattle.lists.specs.Calls.{after}
use Rattle.image.proofs.Sizes.{length_image}
use Rattle.lists.proofs.Appended.{size_of_is}
use Rattle.lists.proofs.CallLists.{two_way_lem, list_begins, list_counts, list_written}
use Rattle.lists.proofs.OneMoreClose.{list_gives, list_formula, list_image}
use Rattle.catalogue.specs.Lines.{input_calls, after_input}
use Rattle.catalogue.specs.Left.{puts_of, Left, Built, IsBuiltOf}
use Rattle.std.specs.Prelude.{Option, None, Some, IfSome}

-- begin does not refuse, and leaves a fresh record
module _ (buffer : List ℕ) (room : head_size ≤ length buffer) where
  fresh_writer : (w : CQDBWriter) → value w ≡ value (fresh Twoway Off buffer).writer → w ≡ (fresh Twoway Off buffer).writer
  fresh_writer w e = cc

  begin_fresh : (w : CQDBWriter) (given counts : List ℕ) → value w ≡ beginning Twoway Off (length buffer) → counts ≡ counts_begun (length buffer) given
      → state_with w counts buffer ≡ fresh Twoway Off buffer
  unfolding fresh
  begin_fresh w given counts e f =
      let same = fresh_writer w (e ∙ list_begins Twoway Off buffer room) in
      let cleared = f ∙ list_counts Twoway Off buffer room given in
      λ i. record { writer = same i; counts = cleared i; buffer = buffer }

  pub begin_accepted : {Q : Type 0} (n : ℕ) (b : Outcome CQDBWriter) → b ≡ refusal n → b ≡ beginning Twoway Off (length buffer) → Q
  begin_accepted n b is begun =
      let z : ◌≡◌ {A = ℕ} 0 1 = cc (sym is ∙ begun ∙ list_begins Twoway Off buffer room) in absurd (omega arith)

  begin_length : (w : CQDBWriter) → value w ≡ beginning Twoway Off (length buffer) → w.length ≡ length buffer
  unfolding fresh
  begin_length w e = ap (λ (x : CQDBWriter). x.length) (fresh_writer w (e ∙ list_begins Twoway Off buffer room))

-- the puts of an input from a fresh record, and the close after them
module _ (buffer : List ℕ) (room : head_size ≤ length buffer) (input : List ℕ) (s : State) (e : s ≡ after_input (fresh Twoway Off buffer) input) where
  so : s ≡ after (fresh Twoway Off buffer) (input_calls input)
  unfolding after_input
  so = e

  closes : closing s ≡ value (closed_size s)
  closes = rw so (list_gives Twoway Off buffer room (input_calls input) (two_way_lem (input_calls input)))

  close_accepted : {Q : Type 0} (n : ℕ) → refusal n ≡ closing s → Q
  close_accepted n f = let z : ◌≡◌ {A = ℕ} 0 1 = cc (f ∙ closes) in absurd (omega arith)

  close_built : (n : ℕ) (t : State) → value n ≡ closing s → t ≡ after_close s → IsBuiltOf (length buffer) input s.writer.entries n t.buffer
  unfolding puts_of
  close_built n t f g =
      let cs = input_calls input in
      let es : n ≡ closed_size s = inside (f ∙ closes) in
      record {
        counted = ap (λ (x : State). x.writer.entries) so ∙ (list_written Twoway Off buffer room cs (two_way_lem cs)).entries;
        sized = es ∙ ap closed_size so ∙ list_formula Twoway Off buffer room cs (two_way_lem cs);
        imaged =
            ap (λ (k : ℕ). take k t.buffer) es
            ∙ ap (λ (x : State). take (closed_size s) x.buffer) g
            ∙ ap (λ (x : State). take (closed_size x) (after_close x).buffer) so
            ∙ list_image Twoway Off buffer room cs (two_way_lem cs);
      }
    where
      inside : {k : ℕ} → value n ≡ value k → n ≡ k
      inside p = cc

-- some input's image
pub built_some : (n : ℕ) (input : List ℕ) (entries size : ℕ) (buffer : List ℕ) → IsBuiltOf n input entries size buffer → Built n entries size buffer
built_some n input entries size buffer b = record { input = input; counted = b.counted; sized = b.sized; imaged = b.imaged }

-- all of it, in a room for lines that is no shorter than the buffer: begin answers b, the record w, and leaves these
-- counts; the puts leave s; close answers d and leaves t
module _ (buffer room given counts : List ℕ) (w : CQDBWriter) (b : Outcome CQDBWriter) (is : b ≡ value w)
    (begun : b ≡ beginning Twoway Off (length buffer)) (cleared : counts ≡ counts_begun (length buffer) given) (s : State)
    (big : head_size ≤ length buffer) (enough : length buffer ≤ length room) where
  begin_value : value w ≡ beginning Twoway Off (length buffer)
  begin_value = sym is ∙ begun

  fits : w.length ≤ length room
  fits = let same = begin_length buffer big w begin_value in omega arith

  from_fresh : (input : List ℕ) → s ≡ after_input (state_with w counts buffer) input → s ≡ after_input (fresh Twoway Off buffer) input
  from_fresh input e = e ∙ ap (λ (x : State). after_input x input) (begin_fresh buffer big w given counts begin_value cleared)

  module _ (put : w.length ≤ length room → Left (state_with w counts buffer) s) where
    pub built : (n : ℕ) (d : Outcome ℕ) (t : State) → d ≡ value n → d ≡ closing s → t ≡ after_close s → Built (length buffer) s.writer.entries n t.buffer
    built n d t gave close leaves =
        let left = put fits in
        built_some (length buffer) left.input s.writer.entries n t.buffer
        (close_built buffer big left.input s (from_fresh left.input left.left) n t (sym gave ∙ close) leaves)

    pub never_refused : {Q : Type 0} (n : ℕ) (d : Outcome ℕ) → d ≡ refusal n → d ≡ closing s → Q
    never_refused n d gave close =
        let left = put fits in
        close_accepted buffer big left.input s (from_fresh left.input left.left) n (sym gave ∙ close)

  -- of the bytes that a reader had, where those are known
  pub built_whole : (known : Option (List ℕ)) → (w.length ≤ length room → IfSome known (λ input. s ≡ after_input (state_with w counts buffer) input))
      → (n : ℕ) (d : Outcome ℕ) (t : State) → d ≡ value n → d ≡ closing s → t ≡ after_close s
      → IfSome known (λ input. IsBuiltOf (length buffer) input s.writer.entries n t.buffer)
  built_whole None put n d t gave close leaves = tt
  built_whole (Some input) put n d t gave close leaves =
      close_built buffer big input s (from_fresh input (put fits)) n t (sym gave ∙ close) leaves

-- the image lies in the buffer
pub built_inside : (n entries k : ℕ) (buffer : List ℕ) → Built n entries k buffer → k ≤ length buffer
built_inside n entries k buffer b =
    let es = puts_of n b.input in
    let took = length-take k buffer in
    let same = ap length b.imaged in
    let long = length_image Twoway es in
    let formula = size_of_is Twoway es in
    let sized = b.sized in
    omega arith
