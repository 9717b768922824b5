-- The accepted puts of a list, put again: none is refused, with either choice and in every longer buffer. Assumes nothing.
use Prim.Native.Nat.{ℕ, ◌^◌, ◌≤◌}
use native.Mathlib.Omega.{arith}
use mathlib.Core.Path.{◌≡◌, refl, sym, ap, ap₂, subst, ◌∙◌}
use mathlib.Core.Bool.{Bool, true, false, cond, ◌&&◌, ◌||◌}
use mathlib.Core.List.{List, [], ◌∷◌, ◌++◌, append_assoc, append-nil}
use lib.Dec.{eqb}
use borrow.Author.Tests.{eqb-true, eq-eqb, le-ltb}
use Rattle.image.specs.declared.Mode.{Mode}
use Rattle.image.specs.declared.Mode.TheVariants.{Twoway, Oneway}
use Rattle.image.specs.Image.{Entry, back_size, contains_name}
use Rattle.image.specs.Zero.{has_zero}
use Rattle.writer.specs.declared.Repeats.{Repeats}
use Rattle.writer.specs.State.{refuses_repeats, too_large}
use Rattle.lists.specs.Calls.{Call, put, close, accepted_by, size_of, put_due, accepted_from, due_from, accepted, due, WordIds, put_all}
use Rattle.lists.proofs.Appended.{size_of_is}
use Rattle.lists.proofs.ListPuts.{due_free, due_new, due_room}
use Rattle.lists.proofs.CallLists.{accepted_by_due}

module _ (mode : Mode) (repeats : Repeats) (n : ℕ) where
  -- none of these is refused, each put after those before it
  abbrev pub Again : List Entry → List Entry → Type 0
  Again es [] = Unit {0}
  Again es (f ∷ fs) = (put_due mode repeats n es f ≡ 0) × Again (es ++ (f ∷ [])) fs

  again_from : (es : List Entry) (cs : List Call) → Again es (accepted_by cs (due_from mode repeats n es cs))
  unfolding accepted_by due_from
  again_from es [] = tt
  again_from es (close ∷ cs) = rw (append-nil es) (again_from es cs)
  again_from es (put e ∷ cs) = again_by_due (eqb (put_due mode repeats n es e) 0) refl (again_from es cs) (again_from (es ++ (e ∷ [])) cs)
    where
      again_by_due : (b : Bool) → eqb (put_due mode repeats n es e) 0 ≡ b → Again es (accepted_by cs (due_from mode repeats n es cs))
          → Again (es ++ (e ∷ [])) (accepted_by cs (due_from mode repeats n (es ++ (e ∷ [])) cs))
          → Again es (cond b (e ∷ []) [] ++ accepted_by cs (due_from mode repeats n (es ++ cond b (e ∷ []) []) cs))
      again_by_due true d without with_it = (eqb-true (put_due mode repeats n es e) 0 d, with_it)
      again_by_due false d without with_it = rw (append-nil es) without

  -- the accepted puts of a list are such
  pub again : (cs : List Call) → Again [] (accepted mode repeats n cs)
  unfolding due
  again cs = subst (λ (es : List Entry). Again [] es) (accepted_by_due mode repeats n cs) (again_from [] cs)

  -- so all are accepted
  all_accepted : (es fs : List Entry) → Again es fs → accepted_from mode repeats n es (put_all fs) ≡ es ++ fs
  unfolding accepted_from put_all
  all_accepted es [] h = sym (append-nil es)
  all_accepted es (f ∷ fs) h =
      ap (λ (b : Bool). accepted_from mode repeats n (es ++ cond b (f ∷ []) []) (put_all fs)) (eq-eqb (put_due mode repeats n es f) 0 h.0)
      ∙ all_accepted (es ++ (f ∷ [])) fs h.1
      ∙ append_assoc es (f ∷ []) fs

  pub again_accepted : (fs : List Entry) → Again [] fs → accepted mode repeats n (put_all fs) ≡ fs
  unfolding accepted
  again_accepted fs h = all_accepted [] fs h

-- where another choice or another length refuses no more, the same puts are accepted
pub again_there : (mode : Mode) (r q : Repeats) (n m : ℕ) → ((es : List Entry) (e : Entry) → put_due mode r n es e ≡ 0 → put_due mode q m es e ≡ 0)
    → (es fs : List Entry) → Again mode r n es fs → Again mode q m es fs
again_there mode r q n m no_more es [] h = tt
again_there mode r q n m no_more es (f ∷ fs) h = (no_more es f h.0, again_there mode r q n m no_more (es ++ (f ∷ [])) fs h.1)

-- a longer buffer refuses no more
pub due_longer : (mode : Mode) (repeats : Repeats) (n m : ℕ) → n ≤ m → (es : List Entry) (e : Entry)
    → put_due mode repeats n es e ≡ 0 → put_due mode repeats m es e ≡ 0
unfolding put_due
due_longer mode repeats n m more es e d =
    let size : ℕ = size_of mode (es ++ (e ∷ [])) in
    let room = due_room mode repeats n es e d in
    let is = size_of_is mode (es ++ (e ∷ [])) in
    decided (has_zero e.name) (contains_name e.name es && refuses_repeats repeats) (too_large m size) (due_free mode repeats n es e d)
    (due_new mode repeats n es e d)
    (ap₂ {C = Bool} (λ (a b : Bool). a || b) (le-ltb m size (omega (arith, room.0, is))) (le-ltb 4294967295 size (omega (arith, room.1, is))))
  where
    decided : (z h t : Bool) → z ≡ false → h ≡ false → t ≡ false → ◌≡◌ {A = ℕ} (cond z 13 (cond h 16 (cond t 3 0))) 0
    decided z h t p q r = rw (p, q, r) refl

-- their ids are words
pub words_again : (mode : Mode) (es : List Entry) → back_size es ≤ 2 ^ 32 → WordIds mode (put_all es)
unfolding put_all back_size
words_again mode [] h = tt
words_again Twoway (e ∷ es) h = (tt, words_again Twoway es (omega arith))
words_again Oneway (e ∷ es) h = (omega arith, words_again Oneway es (omega arith))
