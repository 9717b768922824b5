-- One entry more at the end of a list of entries: sizes, back size and counts. Assumes nothing.
use Prim.Native.Nat.{ℕ, ◌+◌, ◌*◌, ◌≤◌, max}
use native.Mathlib.Omega.{arith}
use mathlib.Core.Path.{◌≡◌, refl, ap, ◌∙◌}
use mathlib.Core.Bool.{Bool, true, false, cond}
use mathlib.Core.List.{List, [], ◌∷◌, ◌++◌}
use lib.ListN.{length}
use borrow.Author.Tests.{eq-eqb, ne_eqb}
use Rattle.jhash.specs.NameHash.{hash_of}
use Rattle.image.specs.declared.Mode.{Mode}
use Rattle.image.specs.Tables.{table_of}
use Rattle.image.specs.Image.{Entry, Placed, entry_size, entries_size, placed, in_table, count, back_size, image_size}
use Rattle.image.proofs.Sizes.{entries_size-append, placed_append, count_nil, count_cons, count_append}
use Rattle.lists.specs.Calls.{puts_size, size_of}

-- ---- sizes

one_size : (e : Entry) → entries_size (e ∷ []) ≡ entry_size e
unfolding entries_size
one_size e = omega arith

pub entries_size-snoc : (es : List Entry) (e : Entry) → entries_size (es ++ (e ∷ [])) ≡ entries_size es + entry_size e
entries_size-snoc es e = entries_size-append es (e ∷ []) ∙ ap (λ (k : ℕ). entries_size es + k) (one_size e)

puts_size_is : (es : List Entry) → puts_size es ≡ entries_size es + 16 * length es
unfolding puts_size entries_size
puts_size_is [] = refl
puts_size_is (e ∷ es) = omega (arith, puts_size_is es)

-- the size by 01's formula for lists is that of 01's image record
pub size_of_is : (mode : Mode) (es : List Entry) → size_of mode es ≡ image_size mode es
unfolding size_of
size_of_is mode es = omega (arith, puts_size_is es)

pub back_size-snoc : (es : List Entry) (e : Entry) → back_size (es ++ (e ∷ [])) ≡ max (back_size es) (e.id + 1)
unfolding back_size
back_size-snoc [] e = omega arith
back_size-snoc (x ∷ es) e = omega (arith, back_size-snoc es e)

-- ---- counts

pub count_within : (t : ℕ) (ps : List Placed) → count t ps ≤ length ps
count_within t [] = omega (arith, count_nil t)
count_within t (p ∷ ps) = within_with_first (in_table t p) (count_within t ps) (count_cons t p ps)
  where
    within_with_first : (b : Bool) → count t ps ≤ length ps → count t (p ∷ ps) ≡ cond b 1 0 + count t ps → count t (p ∷ ps) ≤ length (p ∷ ps)
    within_with_first true h e = omega arith
    within_with_first false h e = omega arith

-- the entry's own table has one more, every other as many as before
module _ (t o : ℕ) (es : List Entry) (e : Entry) where
  count_one : (b : Bool) → in_table t (record { entry = e; at = o + entries_size es }) ≡ b → count t (placed (o + entries_size es) (e ∷ [])) ≡ cond b 1 0
  unfolding placed
  count_one b h =
      count_cons t (record { entry = e; at = o + entries_size es }) []
      ∙ ap (λ (c : Bool). cond c 1 0 + count t []) h
      ∙ ap (λ (k : ℕ). cond b 1 0 + k) (count_nil t)
      ∙ nothing_more (cond b 1 0)
    where
      nothing_more : (n : ℕ) → n + 0 ≡ n
      nothing_more n = omega arith

  count_snoc : (b : Bool) → in_table t (record { entry = e; at = o + entries_size es }) ≡ b
      → count t (placed o (es ++ (e ∷ []))) ≡ count t (placed o es) + cond b 1 0
  count_snoc b h =
      ap (count t) (placed_append o es (e ∷ []))
      ∙ count_append t (placed o es) (placed (o + entries_size es) (e ∷ []))
      ∙ ap (λ (k : ℕ). count t (placed o es) + k) (count_one b h)

  pub count_same : table_of (hash_of e.name) ≡ t → count t (placed o (es ++ (e ∷ []))) ≡ count t (placed o es) + 1
  count_same h = count_snoc true (eq-eqb (table_of (hash_of e.name)) t h)

  pub count_other : (table_of (hash_of e.name) ≡ t → ⊥) → count t (placed o (es ++ (e ∷ []))) ≡ count t (placed o es)
  count_other h = omega (arith, count_snoc false (ne_eqb (table_of (hash_of e.name)) t h))
