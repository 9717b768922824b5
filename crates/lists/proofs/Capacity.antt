-- A list that has room for all its puts: none is refused with 3, whether others are refused or not. Assumes nothing.
use Prim.Native.Nat.{ℕ, zero, suc, ◌+◌, ◌*◌, ◌≤◌}
use native.Mathlib.Omega.{arith}
use mathlib.Core.Path.{◌≡◌, sym, ap, ap₂, ◌∙◌}
use mathlib.Core.Bool.{Bool, true, false, cond, ◌&&◌, ◌||◌}
use mathlib.Core.List.{List, [], ◌∷◌, ◌++◌, append-nil}
use lib.ListN.{length, get_or}
use lib.Dec.{eqb}
use borrow.Author.Tests.{le-ltb}
use Rattle.image.specs.declared.Mode.{Mode}
use Rattle.image.specs.declared.Mode.TheVariants.{Twoway, Oneway}
use Rattle.image.specs.Image.{Entry, back_size, back_in, contains_name}
use Rattle.image.specs.Zero.{has_zero}
use Rattle.writer.specs.declared.Repeats.{Repeats}
use Rattle.writer.specs.State.{refuses_repeats, too_large}
use Rattle.lists.specs.Calls.{Call, put, close, puts_size, size_of, put_due, due_from, due, puts, WordIds}
use Rattle.lists.specs.Demand3.{answers_of}
use Rattle.lists.specs.Theorems.Capacity.{CapacitySuffices}
use Rattle.lists.proofs.Appended.{back_size-snoc}
use Rattle.lists.proofs.CallLists.{list_answers}

pub back_rises : (mode : Mode) (a b : ℕ) → a ≤ b → back_in mode a ≤ back_in mode b
back_rises Twoway a b h = h
back_rises Oneway a b h = omega arith

puts_size-snoc : (es : List Entry) (e : Entry) → puts_size (es ++ (e ∷ [])) ≡ puts_size es + (25 + length e.name)
unfolding puts_size
puts_size-snoc [] e = omega arith
puts_size-snoc (x ∷ es) e = omega (arith, puts_size-snoc es e)

-- a put that fits is not refused with 3
capacity_due : (z h t : Bool) → t ≡ false → ◌≡◌ {A = ℕ} (cond z 13 (cond h 16 (cond t 3 0))) 3 → ⊥
capacity_due true h t p d = omega arith
capacity_due false true t p d = omega arith
capacity_due false false true p d = let z : ◌≡◌ {A = ℕ} 0 1 = cc in omega arith
capacity_due false false false p d = omega arith

-- the accepted puts es and those to come need no more than `size` bytes, and no id is `top` or above; the buffer has room for these
module _ (mode : Mode) (repeats : Repeats) (n size top : ℕ) (within : 2072 + size + 4 * back_in mode top ≤ n)
    (small : 2072 + size + 4 * back_in mode top ≤ 4294967295) where
  one_fits : (es : List Entry) (e : Entry) (rest : ℕ) → puts_size es + (25 + length e.name + rest) ≤ size → back_size es ≤ top → e.id + 1 ≤ top
      → put_due mode repeats n es e ≡ 3 → ⊥
  unfolding put_due size_of
  one_fits es e rest fits back id d =
      let next : List Entry = es ++ (e ∷ []) in
      let higher = back_rises mode (back_size next) top (omega (arith, back_size-snoc es e)) in
      let least = puts_size-snoc es e in
      capacity_due (has_zero e.name) (contains_name e.name es && refuses_repeats repeats) (too_large n (size_of mode next))
      (ap₂ {C = Bool} (λ (a b : Bool). a || b) (le-ltb n (size_of mode next) (omega (arith, higher, least)))
      (le-ltb 4294967295 (size_of mode next) (omega (arith, higher, least))))
      d

  -- after the put, accepted or not
  size_then : (b : Bool) (es : List Entry) (e : Entry) (rest : ℕ) → puts_size es + (25 + length e.name + rest) ≤ size
      → puts_size (es ++ cond b (e ∷ []) []) + rest ≤ size
  size_then true es e rest h = omega (arith, puts_size-snoc es e)
  size_then false es e rest h = rw (append-nil es) (omega arith)

  back_then : (b : Bool) (es : List Entry) (e : Entry) → back_size es ≤ top → e.id + 1 ≤ top → back_size (es ++ cond b (e ∷ []) []) ≤ top
  back_then true es e h id = omega (arith, back_size-snoc es e)
  back_then false es e h id = rw (append-nil es) h

  none_from : (es : List Entry) (cs : List Call) → puts_size es + puts_size (puts cs) ≤ size → back_size es ≤ top → back_size (puts cs) ≤ top
      → (i : ℕ) → get_or (due_from mode repeats n es cs) i 0 ≡ 3 → ⊥
  unfolding due_from puts puts_size back_size
  none_from es [] fits back later i d = omega arith
  none_from es (close ∷ cs) fits back later zero d = omega arith
  none_from es (close ∷ cs) fits back later (suc i) d =
      none_from (es ++ []) cs (rw (append-nil es) fits) (rw (append-nil es) back) later i d
  none_from es (put e ∷ cs) fits back later zero d = one_fits es e (puts_size (puts cs)) fits back (omega arith) d
  none_from es (put e ∷ cs) fits back later (suc i) d =
      let b : Bool = eqb (put_due mode repeats n es e) 0 in
      none_from (es ++ cond b (e ∷ []) []) cs (size_then b es e (puts_size (puts cs)) fits) (back_then b es e back (omega arith)) (omega arith) i d

none_refused : (mode : Mode) (repeats : Repeats) (buffer : List ℕ) (cs : List Call) → WordIds mode cs
    → size_of mode (puts cs) ≤ length buffer → size_of mode (puts cs) ≤ 4294967295
    → (i : ℕ) → get_or (answers_of mode repeats buffer cs) i 0 ≡ 3 → ⊥
unfolding size_of due puts_size back_size
none_refused mode repeats buffer cs word within small i d =
    none_from mode repeats (length buffer) (puts_size (puts cs)) (back_size (puts cs)) within small [] cs (omega arith) (omega arith) (omega arith) i
    (ap (λ (rs : List ℕ). get_or rs i 0) (sym (list_answers mode repeats buffer (omega arith) cs word)) ∙ d)

pub capacity : CapacitySuffices
capacity = record { none_refused = none_refused }
