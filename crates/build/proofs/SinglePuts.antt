-- The puts of a list one by one: before each put, what is left to be put makes of what was put what the whole list leaves. Assumes nothing.
use Prim.Native.Nat.{ℕ, ◌+◌, ◌≤◌, ◌<◌}
use native.Mathlib.Omega.{arith}
use native.Mathlib.Numerals.{add-one}
use mathlib.Core.Path.{◌≡◌, refl, sym, ap, ap₂, subst, ◌∙◌}
use mathlib.Core.Bool.{Bool, cond, ◌&&◌, and-false}
use mathlib.Core.List.{List, [], ◌∷◌, ◌++◌, append_assoc, append-nil}
use lib.Dec.{eqb}
use lib.ListN.{length, get_or, set, take, drop, length-set, take-append-drop}
use lib.Seq.{take-suc-set, drop-set-lt}
use borrow.Author.Tests.{lt-leb}
use Rattle.image.specs.declared.Mode.{Mode}
use Rattle.image.specs.Image.{Entry, head_size}
use Rattle.image.specs.PackedNames.{nth}
use Rattle.writer.specs.declared.Repeats.{Repeats}
use Rattle.writer.specs.State.{State, fresh}
use Rattle.writer.specs.Put.{put_refusal, appended, after_put, entry_of}
use Rattle.lists.specs.Calls.{Call, put, after, answers}
use Rattle.lists.specs.Demand3.{answers_of, after_list}
use Rattle.index.specs.Index.{slot_count, seeks, Right, indexed_refusal, after_indexed}
use Rattle.index.specs.Promise.{PutIndexed}
use Rattle.index.proofs.RightKept.{right_fresh}
use Rattle.build.specs.Build.{calls_of}
use Rattle.build.specs.Steps.Steps.{PutPre, PutPost}
use Rattle.build.proofs.CallsLeft.{rest, rest_cons, rest_none, entries_most}

-- ---- one put

-- by the rule, without slots
pub by_rule : {s : State} {slots : List ℕ} {e : Entry} {r : ℕ} {then : State} → length slots ≡ 0 → r ≡ put_refusal s e
    → then ≡ after_put s e → PutPost s slots e r then slots
by_rule none answer leaves = record { answer = answer; leaves = leaves; index = λ some. absurd (omega (arith, none, some)) }

-- by an index with an empty slot
pub by_index : {s : State} {slots : List ℕ} {e : Entry} {r : ℕ} {then : State} {slotsThen : List ℕ} → PutPre s slots → (length slots ≡ 0 → ⊥)
    → PutIndexed s slots e r then slotsThen → PutPost s slots e r then slotsThen
unfolding indexed_refusal after_indexed after_put
by_index {s} {slots} {e} pre lent done =
    let some : 0 < length slots = omega (arith, lent) in
    let right = pre.index some in
    let by : indexed_refusal s slots e ≡ put_refusal s e =
    ap (λ (b : Bool). cond (seeks s && (eqb (put_refusal s e) 0 && b)) 24 (put_refusal s e))
    (lt-leb (slot_count slots) s.writer.entries (pre.spare some))
    ∙ ap (λ (b : Bool). cond (seeks s && b) 24 (put_refusal s e)) (and-false (eqb (put_refusal s e) 0))
    ∙ ap (λ (b : Bool). cond b 24 (put_refusal s e)) (and-false (seeks s)) in
    record {
      answer = done.answer right ∙ by;
      leaves = done.leaves right ∙ ap (λ (k : ℕ). cond (eqb k 0) (appended s e) s) by;
      index = λ h. done.right right;
    }

-- ---- the loop's invariant, before the i-th put

pub record PutsBefore (mode : Mode) (repeats : Repeats) (buffer : List ℕ) (xs : List (List ℕ)) (ids places : List ℕ) (i : ℕ)
    (s : State) (refusals slots : List ℕ) : Type 0 where
  pub left : after s (rest xs ids i) ≡ after_list mode repeats buffer (calls_of xs ids)
  pub told : take i refusals ++ answers s (rest xs ids i) ≡ answers_of mode repeats buffer (calls_of xs ids)
  pub index : 0 < length slots → Right s slots
  pub few : s.writer.entries ≤ i
  pub size : length refusals ≡ length places
  pub kept : (k : ℕ) → i ≤ k → drop k refusals ≡ drop k places

module _ {mode : Mode} {repeats : Repeats} {buffer : List ℕ} {xs : List (List ℕ)} {ids places : List ℕ} where
  pub puts_start : {s : State} {slots : List ℕ} → s ≡ fresh mode repeats buffer → head_size ≤ length buffer → ((i : ℕ) → get_or slots i 0 ≡ 0)
      → PutsBefore mode repeats buffer xs ids places 0 s places slots
  unfolding fresh
  puts_start {s} {slots} e room clear =
      record {
        left = ap (λ (t : State). after t (calls_of xs ids)) e;
        told = ap (λ (t : State). answers t (calls_of xs ids)) e;
        index = λ h. subst (λ (t : State). Right t slots) (sym e) (right_fresh mode repeats buffer slots room clear);
        few = omega (arith, ap (λ (t : State). t.writer.entries) e);
        size = refl;
        kept = λ k h. refl;
      }

  module _ {i : ℕ} {s : State} {refusals slots : List ℕ} (g : PutsBefore mode repeats buffer xs ids places i s refusals slots) where
    pub puts_end : length xs ≤ i → s ≡ after_list mode repeats buffer (calls_of xs ids)
    unfolding after
    puts_end h = ap (after s) (sym (rest_none xs ids i h)) ∙ g.left

    pub answers_end : length xs ≤ i → (n : ℕ) → n ≡ i → refusals ≡ answers_of mode repeats buffer (calls_of xs ids) ++ drop n places
    unfolding answers
    answers_end h n e =
        let told : take i refusals ≡ answers_of mode repeats buffer (calls_of xs ids) =
        sym (append-nil (take i refusals)) ∙ ap (λ (l : List Call). take i refusals ++ answers s l) (sym (rest_none xs ids i h)) ∙ g.told in
        sym (take-append-drop i refusals)
        ∙ ap₂ {C = List ℕ} (λ (a b : List ℕ). a ++ b) told (g.kept i (omega arith) ∙ ap (λ (k : ℕ). drop k places) (sym e))

    module _ (inside : i < length xs) (many : length xs ≤ length ids) (room : length xs ≤ length refusals) (name : List ℕ) (named : name ≡ nth xs i)
        (r : ℕ) (s' : State) (slots' : List ℕ) (done : PutPost s slots (entry_of name (get_or ids i 0)) r s' slots') (long : length slots' ≡ length slots) where
      e : Entry
      e = entry_of (nth xs i) (get_or ids i 0)

      more : List Call
      more = rest xs ids (i + 1)

      r_is : r ≡ put_refusal s e
      unfolding e
      r_is = done.answer ∙ ap (λ (x : List ℕ). put_refusal s (entry_of x (get_or ids i 0))) named

      next : s' ≡ after_put s e
      unfolding e
      next = done.leaves ∙ ap (λ (x : List ℕ). after_put s (entry_of x (get_or ids i 0))) named

      cons : rest xs ids i ≡ put e ∷ more
      unfolding e more
      cons = rest_cons xs ids i inside (omega (arith, inside, many))

      left_next : after s' more ≡ after_list mode repeats buffer (calls_of xs ids)
      unfolding after
      left_next = ap (λ (u : State). after u more) next ∙ ap (after s) (sym cons) ∙ g.left

      told_next : take (i + 1) (set refusals i r) ++ answers s' more ≡ answers_of mode repeats buffer (calls_of xs ids)
      unfolding answers
      told_next =
          ap₂ {C = List ℕ} (λ (a b : List ℕ). a ++ b)
          (ap (λ (k : ℕ). take k (set refusals i r)) (add-one i) ∙ take-suc-set refusals i r (omega (arith, inside, room)))
          (ap (λ (u : State). answers u more) next)
          ∙ append_assoc (take i refusals) (r ∷ []) (answers (after_put s e) more)
          ∙ ap (λ (k : ℕ). take i refusals ++ (k ∷ answers (after_put s e) more)) r_is
          ∙ ap (λ (l : List Call). take i refusals ++ answers s l) (sym cons)
          ∙ g.told

      pub puts_turn : PutsBefore mode repeats buffer xs ids places (i + 1) s' (set refusals i r) slots'
      unfolding more
      puts_turn =
          record {
            left = left_next;
            told = told_next;
            index = λ h. done.index (omega (arith, h, long));
            few = omega (arith, ap (λ (u : State). u.writer.entries) next, entries_most s e, g.few);
            size = length-set refusals i r ∙ g.size;
            kept = λ k h. drop-set-lt k refusals i r (omega (arith, h)) ∙ g.kept k (omega (arith, h));
          }
