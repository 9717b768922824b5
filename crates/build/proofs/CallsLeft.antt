-- The puts of a list from the i-th on, and what puts keep. Assumes nothing.
use Prim.Native.Nat.{ℕ, ◌+◌, ◌-◌, ◌≤◌, ◌<◌}
use native.Mathlib.Omega.{arith}
use native.Mathlib.Numerals.{add-one}
use mathlib.Core.Path.{◌≡◌, refl, sym, ap, ap₂, ◌∙◌}
use mathlib.Core.List.{List, [], ◌∷◌, ◌++◌, append-nil, append_assoc}
use lib.Dec.{eqb}
use lib.ListN.{length, get_or, drop, drop_of_length-le, length-append}
use lib.Seq.{drop-cons, drop-drop}
use Rattle.image.specs.declared.Mode.{Mode}
use Rattle.image.specs.Image.{Entry, entry_size, entries_size, back_size, image_size}
use Rattle.image.proofs.Sizes.{entries_size-append}
use Rattle.image.specs.PackedNames.{nth}
use Rattle.writer.specs.declared.Repeats.{Repeats}
use Rattle.writer.specs.State.{State}
use Rattle.writer.specs.Put.{put_refusal, writer_after_put, writer_after_entry, appended, after_put, entry_of}
use Rattle.writer.proofs.Kept.{put_keeps_behind}
use Rattle.lists.specs.Calls.{Call, put, after, accepted_from, put_due, puts}
use Rattle.lists.proofs.Capacity.{back_rises}
use Rattle.build.specs.Build.{calls_of}
use Rattle.build.specs.Steps.Steps.{entries_listed}
use Rattle.serialize.proofs.Choices.{cond_holds}

abbrev pub rest : List (List ℕ) → List ℕ → ℕ → List Call
rest xs ids i = calls_of (drop i xs) (drop i ids)

pub rest_cons : (xs : List (List ℕ)) (ids : List ℕ) (i : ℕ) → i < length xs → i < length ids
    → rest xs ids i ≡ put (entry_of (nth xs i) (get_or ids i 0)) ∷ rest xs ids (i + 1)
unfolding calls_of
rest_cons xs ids i h k =
    ap₂ calls_of (drop-cons xs i [] h) (drop-cons ids i 0 k)
    ∙ ap (λ (m : ℕ). put (entry_of (nth xs i) (get_or ids i 0)) ∷ calls_of (drop m xs) (drop m ids)) (sym (add-one i))

pub rest_none : (xs : List (List ℕ)) (ids : List ℕ) (i : ℕ) → length xs ≤ i → rest xs ids i ≡ []
unfolding calls_of
rest_none xs ids i h = ap (λ (l : List (List ℕ)). calls_of l (drop i ids)) (drop_of_length-le xs {i = i} h)

-- ---- what one put changes of the record

pub entries_most : (s : State) (e : Entry) → (after_put s e).writer.entries ≤ s.writer.entries + 1
unfolding after_put appended writer_after_entry writer_after_put
entries_most s e = cond_holds (λ (t : State). t.writer.entries ≤ s.writer.entries + 1) (eqb (put_refusal s e) 0) (omega arith) (omega arith)

end_most : (s : State) (e : Entry) → (after_put s e).writer.end ≤ s.writer.end + entry_size e
unfolding after_put appended writer_after_entry writer_after_put
end_most s e = cond_holds (λ (t : State). t.writer.end ≤ s.writer.end + entry_size e) (eqb (put_refusal s e) 0) (omega arith) (omega arith)

-- ---- a put keeps every byte behind its entry

-- bytes that are equal from a place on are so from a later one on
pub drop_later : (a b : List ℕ) (m k : ℕ) → m ≤ k → drop m a ≡ drop m b → drop k a ≡ drop k b
drop_later a b m k h e =
    let is : m + (k - m) ≡ k = omega arith in
    ap (λ (j : ℕ). drop j a) (sym is) ∙ sym (drop-drop (k - m) m a) ∙ ap (drop (k - m)) e ∙ drop-drop (k - m) m b ∙ ap (λ (j : ℕ). drop j b) is

put_keeps_from : (s : State) (e : Entry) (k : ℕ) → s.writer.end + entry_size e ≤ k → drop k (after_put s e).buffer ≡ drop k s.buffer
put_keeps_from s e k h = drop_later (after_put s e).buffer s.buffer (s.writer.end + entry_size e) k h (put_keeps_behind s e)

-- and so the puts of a list, accepted or refused
pub puts_keep : (s : State) (xs : List (List ℕ)) (ids : List ℕ) (k : ℕ) → s.writer.end + entries_size (entries_listed xs ids) ≤ k
    → drop k (after s (calls_of xs ids)).buffer ≡ drop k s.buffer
unfolding after calls_of puts entries_size
puts_keep s [] ids k h = refl
puts_keep s (x ∷ xs) [] k h = refl
puts_keep s (x ∷ xs) (id ∷ ids) k h =
    let e = entry_of x id in
    puts_keep (after_put s e) xs ids k (omega (arith, end_most s e)) ∙ put_keeps_from s e k (omega arith)

-- ---- the image of the accepted puts is no larger than that of all

back_more : (es : List Entry) (e : Entry) (more : List Entry) → back_size (es ++ more) ≤ back_size (es ++ e ∷ more)
unfolding back_size
back_more [] e more = omega arith
back_more (x ∷ es) e more = omega (arith, back_more es e more)

size_more : (mode : Mode) (es : List Entry) (e : Entry) (more : List Entry) → image_size mode (es ++ more) ≤ image_size mode (es ++ e ∷ more)
unfolding entries_size
size_more mode es e more =
    let backs = back_rises mode (back_size (es ++ more)) (back_size (es ++ e ∷ more)) (back_more es e more) in
    omega (arith, entries_size-append es more, entries_size-append es (e ∷ more), length-append es more, length-append es (e ∷ more), backs)

pub accepted_most : (mode : Mode) (repeats : Repeats) (n : ℕ) (es : List Entry) (xs : List (List ℕ)) (ids : List ℕ)
    → image_size mode (accepted_from mode repeats n es (calls_of xs ids)) ≤ image_size mode (es ++ entries_listed xs ids)
unfolding accepted_from calls_of puts
accepted_most mode repeats n es [] ids = omega (arith, ap (image_size mode) (append-nil es))
accepted_most mode repeats n es (x ∷ xs) [] = omega (arith, ap (image_size mode) (append-nil es))
accepted_most mode repeats n es (x ∷ xs) (id ∷ ids) =
    let e = entry_of x id in
    let more = accepted_most mode repeats n (es ++ e ∷ []) xs ids in
    let none = accepted_most mode repeats n es xs ids in
    let same = ap (λ (l : List Entry). image_size mode (accepted_from mode repeats n l (calls_of xs ids))) (append-nil es) in
    cond_holds
    (λ (l : List Entry). image_size mode (accepted_from mode repeats n (es ++ l) (calls_of xs ids)) ≤ image_size mode (es ++ e ∷ entries_listed xs ids))
    (eqb (put_due mode repeats n es e) 0) (omega (arith, more, ap (image_size mode) (append_assoc es (e ∷ []) (entries_listed xs ids))))
    (omega (arith, same, none, size_more mode es e (entries_listed xs ids)))
