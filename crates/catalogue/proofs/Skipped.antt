-- What one line leaves; and a line that is as long as the buffer is skipped, whatever it says. Assumes nothing.
use Prim.Native.Nat.{ℕ, ◌+◌, ◌≤◌, ◌<◌}
use native.Mathlib.Omega.{arith}
use mathlib.Core.Path.{◌≡◌, refl, sym, ap, ◌∙◌}
use mathlib.Core.Bool.{Bool, true, false, cond}
use mathlib.Core.List.{List}
use lib.ListN.{length, drop, length-drop}
use lib.Dec.{eqb}
use Rattle.image.specs.Image.{Entry}
use Rattle.writer.specs.State.{State, finished_size}
use Rattle.writer.specs.Put.{entry_of, writer_after_entry, put_refusal, appended, after_put}
use Rattle.writer.proofs.Fits.{fitting, not_too_large}
use Rattle.writer.proofs.Puts.{passed, refused_leaves}
use Rattle.lists.specs.Calls.{after}
use Rattle.catalogue.specs.Lines.{Form, entry, other, parse_line, calls_by, after_put_line}
use Rattle.catalogue.proofs.Forms.{named}

-- what a line leaves, by its form
abbrev leaves : State → List ℕ → Form → State
leaves s line (entry id at) = after_put s (entry_of (drop at line) id)
leaves s line other = s

leaves_calls : (s : State) (line : List ℕ) (f : Form) → after s (calls_by line f) ≡ leaves s line f
unfolding after
leaves_calls s line (entry id at) = refl
leaves_calls s line other = refl

after_form : (s : State) (line : List ℕ) → after_put_line s line ≡ leaves s line (parse_line line)
unfolding after_put_line
after_form s line = leaves_calls s line (parse_line line)

pub after_entry : (s : State) (line : List ℕ) (id at : ℕ) → parse_line line ≡ entry id at → after_put_line s line ≡ after_put s (entry_of (drop at line) id)
after_entry s line id at e = after_form s line ∙ ap (leaves s line) e

pub after_other : (s : State) (line : List ℕ) → parse_line line ≡ other → after_put_line s line ≡ s
after_other s line e = after_form s line ∙ ap (leaves s line) e

-- ---- a put whose name is too long

-- the finished size exceeds the buffer where the name alone does with a head
too_long : (s : State) (e : Entry) → s.writer.length < length e.name + 2097 → after_put s e ≡ s
unfolding writer_after_entry
too_long s e h =
    sym
    (refused_leaves s e (put_refusal s e) refl
    (λ z.
    let went = passed s e z in
    let low = (fitting s.writer s.counts s.buffer went.fitted).low in
    let room = (not_too_large s.writer.length (finished_size (writer_after_entry s.writer e)) went.has_capacity).0 in
    omega arith))

-- ---- a long line

pub long_line : (s : State) (line : List ℕ) → s.writer.length ≤ length line → after_put_line s line ≡ s
long_line s line h = kept_by_form (parse_line line) refl
  where
    kept_by_form : (f : Form) → parse_line line ≡ f → after_put_line s line ≡ s
    kept_by_form (entry id at) e =
        let n = named line id at e in
        let in-line = n.inside in
        let low = n.low in
        let l = length-drop at line in
        after_entry s line id at e ∙ too_long s (entry_of (drop at line) id) (omega arith)
    kept_by_form other e = after_other s line e

-- ---- the buffer's length is kept

put_length : (s : State) (e : Entry) → (after_put s e).writer.length ≡ s.writer.length
unfolding after_put appended writer_after_entry
put_length s e = length_either_way (eqb (put_refusal s e) 0)
  where
    length_either_way : (b : Bool) → (cond b (appended s e) s).writer.length ≡ s.writer.length
    length_either_way true = refl
    length_either_way false = refl

pub line_length : (s : State) (line : List ℕ) → (after_put_line s line).writer.length ≡ s.writer.length
line_length s line = ap (λ (x : State). x.writer.length) (after_form s line) ∙ length_by_form (parse_line line)
  where
    length_by_form : (f : Form) → (leaves s line f).writer.length ≡ s.writer.length
    length_by_form (entry id at) = put_length s (entry_of (drop at line) id)
    length_by_form other = refl
