-- Moved names: what an answer is by the lookup's rule. Assumes nothing.
use Prim.Native.Nat.{ℕ}
use mathlib.Core.Path.{◌≡◌, refl, sym, ap, ◌∙◌}
use mathlib.Core.Logic.{◌↔◌}
use mathlib.Core.Bool.{Bool, true, false, cond}
use mathlib.Core.List.{List}
use mathlib.Core.Option.{Option, none, some}
use borrow.Author.Tests.{ne_eqb, eqb-false}
use lib.Dec.{eqb}
use Rattle.reader.specs.Naming.{name_given}
use Rattle.reader.specs.Lookup.{Lookup, found, nothing, lookup}
use Rattle.reader.specs.Lookup.{Found}
use Rattle.reader.proofs.FoundAt.{found_at_offset}
use Rattle.changes.specs.Moves.{other_id, moved_name, moved}
use Rattle.changes.specs.Theorems.Theorem.{MovesTo}

module _ (old new : List ℕ) (id other : ℕ) where
  moves_to : (name : List ℕ) (f : Found) → name_given old id ≡ some name → lookup new name ≡ found f → (f.id ≡ id → ⊥) → f.id ≡ other
      → MovesTo old new id other
  moves_to name f g l n e =
      let s = found_at_offset new name f l in
      record {
        name = name;
        at = f;
        old_name = g;
        looked_up = l;
        has_id = e;
        another = λ q. n (e ∙ q);
        unbroken = s.unbroken;
        name_there = s.name_there;
        id_there = s.id_there ∙ e;
      }

  by_id : (name : List ℕ) (f : Found) → name_given old id ≡ some name → lookup new name ≡ found f → (t : Bool) → eqb f.id id ≡ t
      → cond t none (some f.id) ≡ some other → MovesTo old new id other
  by_id name f g l true b e = cc
  by_id name f g l false b e =
      let k : f.id ≡ other = cc in
      moves_to name f g l (eqb-false f.id id b) k

  by_lookup : (name : List ℕ) → name_given old id ≡ some name → (x : Lookup) → lookup new name ≡ x → other_id id x ≡ some other → MovesTo old new id other
  by_lookup name g (found f) l e = by_id name f g l (eqb f.id id) refl e
  by_lookup name g (nothing reads) l e = cc

  by_naming : (x : Option (List ℕ)) → name_given old id ≡ x → moved_name new id x ≡ some other → MovesTo old new id other
  by_naming (some name) g e = by_lookup name g (lookup new name) refl e
  by_naming none g e = cc

  moves_back : MovesTo old new id other → moved old new id ≡ some other
  moves_back m =
      let i = m.at.id in
      ap (moved_name new id) m.old_name
      ∙ ap (other_id id) m.looked_up
      ∙ ap (λ (t : Bool). cond t none (some i)) (ne_eqb i id (λ e. m.another (sym m.has_id ∙ e)))
      ∙ ap some m.has_id

  pub moved_exactly : (moved old new id ≡ some other) ↔ MovesTo old new id other
  moved_exactly = (by_naming (name_given old id) refl, moves_back)
