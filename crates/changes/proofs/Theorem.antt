-- What is proved of changes and moved names (`specs/Theorems/Theorem`). Assumes nothing.
use Prim.Native.Nat.{ℕ, zero, suc, ◌+◌, ◌-◌, ◌≤◌}
use native.Mathlib.Omega.{arith}
use native.Mathlib.Decide.{dec_lt}
use mathlib.Core.Path.{◌≡◌, refl, sym, ap, ◌∙◌}
use mathlib.Core.Bool.{true, false}
use mathlib.Core.List.{List}
use mathlib.Core.Option.{Option, none, some}
use Rattle.reader.specs.Naming.{name_given}
use Rattle.changes.specs.Changes.{upper, first_among, first_change, change_at, next_change}
use Rattle.changes.specs.Theorems.Theorem.{FirstDiffering, exchanged, Compared}
use Rattle.changes.proofs.Namings.{alike_exactly, differs_exactly, differs_sym, upper_sym, none_above}
use Rattle.changes.proofs.Search as search
use Rattle.changes.proofs.Moves.{moved_exactly}

module _ (old new : List ℕ) where
  abbrev u : ℕ
  u = upper old new

  as_search : (from : ℕ) → first_among old new from (u - from) ≡ first_change old new from
  as_search from = search.starts old new from u refl

  first_forth : (from k : ℕ) → first_change old new from ≡ some k → FirstDiffering old new from k
  first_forth from k e =
      let w = search.found_first old new (u - from) from k (as_search from ∙ e) in
      record {
        from_there = w.from_there;
        below = omega (arith, w.from_there, w.below);
        unlike = (differs_exactly old new k).0 w.unlike;
        alike_before = λ i p q. (alike_exactly old new i).0 (w.alike_before i p q);
      }

  first_back : (from k : ℕ) → FirstDiffering old new from k → first_change old new from ≡ some k
  first_back from k f =
      sym (as_search from)
      ∙ search.first_found old new (u - from) from k (record {
        from_there = f.from_there;
        below = omega (arith, f.from_there, f.below);
        unlike = (differs_exactly old new k).1 f.unlike;
        alike_before = λ i p q. (alike_exactly old new i).1 (f.alike_before i p q);
      })

  none_forth : (from : ℕ) → first_change old new from ≡ none → (id : ℕ) → from ≤ id → name_given old id ≡ name_given new id
  none_forth from e id p =
      elim (dec_lt id u) [
        | yes q ↦ (alike_exactly old new id).0 (search.none_all old new (u - from) from (as_search from ∙ e) id p (omega arith))
        | no q ↦ let n = none_above old new id (omega arith) in n.0 ∙ sym n.1
      ]

  none_back : (from : ℕ) → ((id : ℕ) → from ≤ id → name_given old id ≡ name_given new id) → first_change old new from ≡ none
  none_back from h =
      sym (as_search from) ∙ search.all_none old new (u - from) from (λ i p q. (alike_exactly old new i).1 (h i p))

  among_sym : (m from : ℕ) → first_among new old from m ≡ first_among old new from m
  unfolding first_among
  among_sym zero from = refl
  among_sym (suc m) from = λ i. elim (differs_sym old new from i) [ true ↦ some from | false ↦ among_sym m (from + 1) i ]

  first_sym : (from : ℕ) → first_change new old from ≡ first_change old new from
  unfolding first_change
  first_sym from = ap (λ (k : ℕ). first_among new old from (k - from)) (upper_sym old new) ∙ among_sym (u - from) from

  swaps : (from : ℕ) → next_change new old from ≡ exchanged (next_change old new from)
  swaps from = ap (change_at new old) (first_sym from) ∙ swapped (first_change old new from)
    where
      swapped : (x : Option ℕ) → change_at new old x ≡ exchanged (change_at old new x)
      swapped (some k) = refl
      swapped none = refl

pub compared : Compared
compared = record {
  differs_exactly = differs_exactly;
  alike_exactly = alike_exactly;
  first_exactly = λ old new from k. (first_forth old new from k, first_back old new from k);
  none_exactly = λ old new from. (none_forth old new from, none_back old new from);
  none_above = none_above;
  lists_changes = λ old new from m h. search.lists_changes old new m from h;
  none_equal = λ image from. ap (change_at image image) (none_back image image from (λ id p. refl));
  swaps = swaps;
  moved_exactly = moved_exactly;
}
