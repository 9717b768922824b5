-- Lists of calls with repeats off: each name is put once, and the accepted puts make the same image with either choice. Assumes nothing.
use Prim.Native.Nat.{ℕ, ◌+◌, ◌≤◌}
use native.Mathlib.Omega.{arith}
use mathlib.Core.Path.{◌≡◌, refl, sym, ap, ◌∙◌}
use mathlib.Core.Bool.{Bool, true, false, cond, and-true}
use mathlib.Core.List.{List, [], ◌∷◌, ◌++◌, append-nil}
use lib.ListN.{length, length-append}
use lib.Dec.{eqb}
use borrow.Author.Tests.{eqb-true}
use Rattle.image.specs.declared.Mode.{Mode}
use Rattle.image.specs.Bytes.{filter}
use Rattle.image.specs.Image.{Entry, head_size, has_name, contains_name, image}
use Rattle.image.proofs.Lists.{filter_nil, filter_yes, filter_no, filter-append}
use Rattle.image.proofs.Equal.{same_true}
use Rattle.image.proofs.Bools.{or_false_first, or_false_second}
use Rattle.lookup_laws.specs.Answer.{of_name, first_id}
use Rattle.writer.specs.declared.Repeats.{Repeats}
use Rattle.writer.specs.declared.Repeats.TheVariants.{Off}
use Rattle.lists.specs.Calls.{Call, put, close, put_due, accepted_from, accepted, WordIds, put_all}
use Rattle.lists.specs.Demand3.{accepted_puts, image_of}
use Rattle.lists.specs.Theorems.RepeatsOff.{ListOff, RepeatsOff}
use Rattle.lists.proofs.ListPuts.{due_new, due_either}
use Rattle.lists.proofs.Members.{only_entry}
use Rattle.lists.proofs.CallLists.{list_accepted, list_written}
use Rattle.lists.proofs.PutsAgain.{again, again_accepted, again_there, words_again}
use Rattle.lists.proofs.ReadingAnswered.{list_read}
use Rattle.lists.proofs.Theorem.{calls_imaged}

-- ---- each name once

none_named : (name : List ℕ) (es : List Entry) → contains_name name es ≡ false → of_name name es ≡ []
unfolding contains_name of_name
none_named name [] h = filter_nil (has_name name)
none_named name (e ∷ es) h =
    filter_no (has_name name) e es (or_false_first (has_name name e) (contains_name name es) h)
    ∙ none_named name es (or_false_second (has_name name e) (contains_name name es) h)

-- one put more of a name that is new
one_more : (name : List ℕ) (es : List Entry) (e : Entry) → contains_name e.name es ≡ false → length (of_name name es) ≤ 1
    → length (of_name name (es ++ (e ∷ []))) ≤ 1
unfolding of_name
one_more name es e new once = one_by_name (has_name name e) refl
  where
    split : of_name name (es ++ (e ∷ [])) ≡ of_name name es ++ filter (has_name name) (e ∷ [])
    split = filter-append (has_name name) es (e ∷ [])

    long : length (of_name name (es ++ (e ∷ []))) ≡ length (of_name name es) + length (filter (has_name name) (e ∷ []))
    long = ap length split ∙ length-append (of_name name es) (filter (has_name name) (e ∷ []))

    one_by_name : (b : Bool) → has_name name e ≡ b → length (of_name name (es ++ (e ∷ []))) ≤ 1
    one_by_name true h =
        let same_name = same_true e.name name h in
        let none : of_name name es ≡ [] = ap (λ (l : List ℕ). of_name l es) (sym same_name) ∙ none_named e.name es new in
        omega (arith, long, ap length none, ap length (filter_yes (has_name name) e [] h), ap length (filter_nil (has_name name)))
    one_by_name false h = omega (arith, long, ap length (filter_no (has_name name) e [] h), ap length (filter_nil (has_name name)))

module _ (mode : Mode) (n : ℕ) where
  once_from : (name : List ℕ) (es : List Entry) (cs : List Call) → length (of_name name es) ≤ 1 → length (of_name name (accepted_from mode Off n es cs)) ≤ 1
  unfolding accepted_from
  once_from name es [] once = once
  once_from name es (close ∷ cs) once = once_from name (es ++ []) cs (rw (append-nil es) once)
  once_from name es (put e ∷ cs) once = once_from name _ cs (once_by_due (eqb (put_due mode Off n es e) 0) refl)
    where
      once_by_due : (b : Bool) → eqb (put_due mode Off n es e) 0 ≡ b → length (of_name name (es ++ cond b (e ∷ []) [])) ≤ 1
      once_by_due true d =
          one_more name es e (sym (and-true (contains_name e.name es)) ∙ due_new mode Off n es e (eqb-true (put_due mode Off n es e) 0 d)) once
      once_by_due false d = rw (append-nil es) once

  once : (name : List ℕ) (cs : List Call) → length (of_name name (accepted mode Off n cs)) ≤ 1
  unfolding accepted of_name
  once name cs = once_from name [] cs (omega (arith, ap length (filter_nil (has_name name))))

  -- ---- the accepted puts, put again with either choice

  accepted_again : (repeats : Repeats) (cs : List Call) → accepted mode repeats n (put_all (accepted mode Off n cs)) ≡ accepted mode Off n cs
  accepted_again repeats cs =
      let es = accepted mode Off n cs in
      again_accepted mode repeats n es (again_there mode Off repeats n n (λ fs f d. due_either mode n fs f d repeats) [] es (again mode Off n cs))

-- the puts of one list of entries and then of another
pub put_all-append : (es fs : List Entry) → put_all (es ++ fs) ≡ put_all es ++ put_all fs
unfolding put_all
put_all-append [] fs = refl
put_all-append (e ∷ es) fs = ap (λ (cs : List Call). put e ∷ cs) (put_all-append es fs)

-- ---- the theorem

pub same_image : (mode : Mode) (repeats₁ : Repeats) (buffer₁ : List ℕ) (cs₁ : List Call) (repeats₂ : Repeats) (buffer₂ : List ℕ) (cs₂ : List Call)
    → head_size ≤ length buffer₁ → head_size ≤ length buffer₂ → WordIds mode cs₁ → WordIds mode cs₂
    → accepted_puts mode repeats₁ buffer₁ cs₁ ≡ accepted_puts mode repeats₂ buffer₂ cs₂ → image_of mode repeats₁ buffer₁ cs₁
    ≡ image_of mode repeats₂ buffer₂ cs₂
same_image mode repeats₁ buffer₁ cs₁ repeats₂ buffer₂ cs₂ room₁ room₂ word₁ word₂ h =
    calls_imaged mode repeats₁ buffer₁ cs₁ room₁ word₁ ∙ ap (image mode) h ∙ sym (calls_imaged mode repeats₂ buffer₂ cs₂ room₂ word₂)

module _ (mode : Mode) (buffer : List ℕ) (cs : List Call) (room : head_size ≤ length buffer) (word : WordIds mode cs) where
  entered : accepted_puts mode Off buffer cs ≡ accepted mode Off (length buffer) cs
  entered = list_accepted mode Off buffer room cs word

  put_once : (name : List ℕ) → length (of_name name (accepted_puts mode Off buffer cs)) ≤ 1
  put_once name = rw entered (once mode (length buffer) name cs)

  again_words : WordIds mode (put_all (accepted_puts mode Off buffer cs))
  again_words = rw entered (words_again mode (accepted mode Off (length buffer) cs) (list_written mode Off buffer room cs word).ids)

  puts_again : (repeats : Repeats) → accepted_puts mode repeats buffer (put_all (accepted_puts mode Off buffer cs)) ≡ accepted_puts mode Off buffer cs
  puts_again repeats =
      list_accepted mode repeats buffer room (put_all (accepted_puts mode Off buffer cs)) again_words
      ∙ ap (λ (es : List Entry). accepted mode repeats (length buffer) (put_all es)) entered
      ∙ accepted_again mode (length buffer) repeats cs
      ∙ sym entered

  list_off : ListOff mode buffer cs
  list_off =
      let gives = rw (sym entered) at (list_read mode Off buffer room cs word).names.name_gives in
      record {
        put_once = put_once;
        own_id = λ name id. (
          λ h. only_entry (accepted_puts mode Off buffer cs) name id (put_once name) (sym (gives name) ∙ h),
          λ h. gives name ∙ ap first_id h,
        );
        puts_again = puts_again;
        image_again = λ repeats.
            same_image mode repeats buffer (put_all (accepted_puts mode Off buffer cs)) Off buffer cs room room again_words word (puts_again repeats);
      }

pub repeats_off : RepeatsOff
repeats_off = record { list_off = list_off; same_image = same_image }
