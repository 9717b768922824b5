-- Each question, by what it asks: names of old and new, and the ids of the round. Assumes nothing.
use Prim.Native.Nat.{ℕ, zero, suc, ◌+◌, ◌≤◌, ◌<◌}
use native.Mathlib.Omega.{arith}
use native.Mathlib.Decide.{ℕ_discrete}
use mathlib.Core.Path.{◌≡◌, refl, sym, ap, ◌∙◌}
use mathlib.Core.Logic.{◌⊎◌, inl, inr}
use mathlib.Core.Bool.{Bool, true, false, cond, not}
use mathlib.Core.List.{List, [], ◌∷◌}
use mathlib.Core.Option.{Option, none, some}
use lib.Dec.{eqb}
use lib.ListN.{length}
use borrow.Author.Tests.{ne_eqb, eqb-true, eqb-false, not-true, not-false}
use Rattle.image.proofs.Bools.{false_not_true}
use Rattle.image.proofs.Equal.{same_self, same_true}
use Rattle.preflight.specs.Ids.{occurs}
use Rattle.preflight.specs.Names.{Names, is_empty, is_name, kept_name, kept, lost_name, lost, renamed, other_has, first_other}
use Rattle.preflight.specs.Names.{first_renamed}
use Rattle.preflight.specs.Exchanges.{shared_or, first_shared, some_kept, taker_of, taken_or, first_taken}
use Rattle.preflight.specs.Theorems.Asked.{In}
use Rattle.preflight.specs.Answers.Place.{Place}
use Rattle.preflight.specs.Answers.Place as place
use Rattle.preflight.specs.Answers.Shared as shared
use Rattle.preflight.specs.Answers.Taken as taken
use Rattle.preflight.proofs.Members.{occurs_in, in_occurs, none_passes, passes_none}

pub none_some : {P : Type 0} (x : List ℕ) → none ≡ some x → P
none_some x e = let z : ◌≡◌ {A = ℕ} 0 1 = cc in absurd (omega arith)

pub same_name : (x y : List ℕ) → some x ≡ some y → x ≡ y
same_name x y e = cc

-- ---- one name
pub is_name_lem : (x : Option (List ℕ)) (name : List ℕ) → is_name x name ≡ true → x ≡ some name
is_name_lem (some n) name h = ap some (same_true n name h)
is_name_lem none name h = absurd (false_not_true h)

pub name_is : (x : Option (List ℕ)) (name : List ℕ) → x ≡ some name → is_name x name ≡ true
name_is x name e = ap (λ (y : Option (List ℕ)). is_name y name) e ∙ same_self name

-- ---- 5: a name that is not empty
no_length : (xs : List ℕ) → length xs ≡ 0 → xs ≡ []
no_length [] h = refl
no_length (x ∷ xs) h = absurd (omega arith)

pub not_empty : (x : Option (List ℕ)) → is_empty x ≡ false → (name : List ℕ) × (x ≡ some name) × ¬ (name ≡ [])
not_empty (some n) h = (n, refl, λ e. eqb-false (length n) 0 h (ap length e))
not_empty none h = absurd (false_not_true (sym h))

pub not_empty_back : (x : Option (List ℕ)) → ((name : List ℕ) × (x ≡ some name) × ¬ (name ≡ [])) → is_empty x ≡ false
not_empty_back x w = ap is_empty w.1 ∙ ne_eqb (length w.0) 0 (λ e. w.2 (no_length w.0 e))

-- ---- another id of the round with a name
module _ (new : Names) (name : List ℕ) (id : ℕ) where
  other_not : (i : ℕ) → other_has new name id i ≡ false → new i ≡ some name → i ≡ id
  other_not i h e = by_case (eqb i id) refl h
    where
      by_case : (t : Bool) → eqb i id ≡ t → cond t false (is_name (new i) name) ≡ false → i ≡ id
      by_case true d q = eqb-true i id d
      by_case false d q = absurd (false_not_true (sym q ∙ name_is (new i) name e))

  other_none : (i : ℕ) → (new i ≡ some name → i ≡ id) → other_has new name id i ≡ false
  other_none i h = by_case (eqb i id) refl (is_name (new i) name) refl
    where
      by_case : (t : Bool) → eqb i id ≡ t → (u : Bool) → is_name (new i) name ≡ u → cond t false u ≡ false
      by_case true d u e = refl
      by_case false d false e = refl
      by_case false d true e = absurd (eqb-false i id d (h (is_name_lem (new i) name e)))

module _ (new : Names) (id : ℕ) (round : List ℕ) where
  pub no_other : (x : Option (List ℕ)) (name : List ℕ) → x ≡ some name → first_other new x id round ≡ place.Nothing
      → (i : ℕ) → In i round → new i ≡ some name → i ≡ id
  no_other x name e h i m d =
      other_not new name id i
      (none_passes (other_has new name id) 0 round (sym (ap (λ (y : Option (List ℕ)). first_other new y id round) e) ∙ h) i m) d

  pub other_nowhere : (x : Option (List ℕ)) → ((name : List ℕ) (i : ℕ) → x ≡ some name → In i round → new i ≡ some name → i ≡ id)
      → first_other new x id round ≡ place.Nothing
  other_nowhere (some name) h = passes_none (other_has new name id) 0 round (λ i m. other_none new name id i (h name i refl m))
  other_nowhere none h = refl

-- ---- 6: no two ids of the round with one name
places_nothing : {P : Type 0} (p q : ℕ) → shared.Places p q ≡ shared.Nothing → P
places_nothing p q e = let z : ◌≡◌ {A = ℕ} 0 1 = cc in absurd (omega arith)

module _ (new : Names) (round : List ℕ) where
  abbrev Alone : ℕ → Type 0
  Alone x = first_other new (new x) x round ≡ place.Nothing

  none_shared : (n : ℕ) (xs : List ℕ) → first_shared new round n xs ≡ shared.Nothing → (x : ℕ) → In x xs → Alone x
  unfolding first_shared
  none_shared n [] h x m = absurd m
  none_shared n (y ∷ ys) h x m = by_case (λ q. none_shared (suc n) ys q x) (first_other new (new y) y round) refl h m
    where
      by_case : (first_shared new round (suc n) ys ≡ shared.Nothing → In x ys → Alone x) → (p : Place) → first_other new (new y) y round ≡ p
          → shared_or n (first_shared new round (suc n) ys) p ≡ shared.Nothing → (y ≡ x) ⊎ In x ys → Alone x
      by_case ih (place.At p) e q m = places_nothing n p q
      by_case ih place.Nothing e q (inl m) = ap (λ (z : ℕ). first_other new (new z) z round) (sym m) ∙ e
      by_case ih place.Nothing e q (inr m) = ih q m

  shared_none : (n : ℕ) (xs : List ℕ) → ((x : ℕ) → In x xs → Alone x) → first_shared new round n xs ≡ shared.Nothing
  unfolding first_shared
  shared_none n [] h = refl
  shared_none n (y ∷ ys) h =
      ap (shared_or n (first_shared new round (suc n) ys)) (h y (inl refl)) ∙ shared_none (suc n) ys (λ x m. h x (inr m))

  pub one_name : first_shared new round 0 round ≡ shared.Nothing → (i k : ℕ) (name : List ℕ) → In i round → In k round
      → new i ≡ some name → new k ≡ some name → i ≡ k
  one_name h i k name m n e d = no_other new k round (new k) name d (none_shared 0 round h k n) i m e

  pub one_name_back : ((i k : ℕ) → In i round → In k round → new i ≡ new k → i ≡ k) → first_shared new round 0 round ≡ shared.Nothing
  one_name_back h = shared_none 0 round (λ x m. other_nowhere new x round (new x) (λ name i e n d. h i x n m (d ∙ sym e)))

-- ---- 9: renamed
module _ (old new : Names) where
  pub kept_so : (id : ℕ) (name : List ℕ) → lost old new id ≡ false → old id ≡ some name → new id ≡ some name
  kept_so id name h e =
      is_name_lem (new id) name (not-false _ (sym (ap (λ (x : Option (List ℕ)). lost_name x (new id)) e) ∙ h))

  pub lost_so : (id : ℕ) → lost old new id ≡ true → (name : List ℕ) × (old id ≡ some name) × ¬ (new id ≡ some name)
  lost_so id h = by_case (old id) refl h
    where
      by_case : (x : Option (List ℕ)) → old id ≡ x → lost_name x (new id) ≡ true → (name : List ℕ) × (old id ≡ some name) × ¬ (new id ≡ some name)
      by_case (some name) e q = (name, e, λ d. false_not_true (sym (not-true _ q) ∙ name_is (new id) name d))
      by_case none e q = absurd (false_not_true q)

  module _ (accepted round : List ℕ) where
    pub not_renamed : first_renamed old new accepted round ≡ place.Nothing → (i : ℕ) (name : List ℕ) → In i round → ¬ In i accepted
        → old i ≡ some name → new i ≡ some name
    not_renamed h i name m n e = by_case (lost old new i) refl (occurs i accepted) refl (none_passes (renamed old new accepted) 0 round h i m)
      where
        by_case : (t : Bool) → lost old new i ≡ t → (u : Bool) → occurs i accepted ≡ u → cond t (not u) false ≡ false → new i ≡ some name
        by_case false d u f q = kept_so i name d e
        by_case true d true f q = absurd (n (occurs_in i accepted f))
        by_case true d false f q = absurd (false_not_true (sym q))

    pub renamed_none : ((i : ℕ) (name : List ℕ) → In i round → ¬ In i accepted → old i ≡ some name → new i ≡ some name)
        → first_renamed old new accepted round ≡ place.Nothing
    renamed_none h = passes_none (renamed old new accepted) 0 round (λ i m. by_case i m (lost old new i) refl (occurs i accepted) refl)
      where
        by_case : (i : ℕ) → In i round → (t : Bool) → lost old new i ≡ t → (u : Bool) → occurs i accepted ≡ u → cond t (not u) false ≡ false
        by_case i m false d u f = refl
        by_case i m true d true f = refl
        by_case i m true d false f =
            let l = lost_so i d in
            absurd (l.2 (h i l.0 m (λ n. false_not_true (sym f ∙ in_occurs i accepted n)) l.1))

-- ---- 8: both name some id alike
module _ (old new : Names) where
  abbrev pub Alike : Type 0
  Alike = (id : ℕ) × (name : List ℕ) × (old id ≡ some name) × (new id ≡ some name)

  kept_alike : (id : ℕ) → kept old new id ≡ true → Alike
  kept_alike id h = by_name (old id) refl h
    where
      by_name : (x : Option (List ℕ)) → old id ≡ x → kept_name x (new id) ≡ true → Alike
      by_name (some name) e q = (id, name, e, is_name_lem (new id) name q)
      by_name none e q = absurd (false_not_true q)

  alike_kept : (id : ℕ) (name : List ℕ) → old id ≡ some name → new id ≡ some name → kept old new id ≡ true
  alike_kept id name e d = ap (λ (x : Option (List ℕ)). kept_name x (new id)) e ∙ name_is (new id) name d

  pub some_alike : (m id : ℕ) → some_kept old new id m ≡ true → Alike
  unfolding some_kept
  some_alike zero id h = absurd (false_not_true h)
  some_alike (suc m) id h = by_first (kept old new id) refl h (some_alike m (id + 1))
    where
      by_first : (t : Bool) → kept old new id ≡ t → cond t true (some_kept old new (id + 1) m) ≡ true
          → (some_kept old new (id + 1) m ≡ true → Alike) → Alike
      by_first true e q ih = kept_alike id e
      by_first false e q ih = ih q

  pub alike_some : (m id j : ℕ) (name : List ℕ) → id ≤ j → j < id + m → old j ≡ some name → new j ≡ some name → some_kept old new id m ≡ true
  unfolding some_kept
  alike_some zero id j name p q e d = absurd (omega arith)
  alike_some (suc m) id j name p q e d = by_first (kept old new id) refl (alike_some m (id + 1) j name)
    where
      by_first : (t : Bool) → kept old new id ≡ t
          → (id + 1 ≤ j → j < id + 1 + m → old j ≡ some name → new j ≡ some name → some_kept old new (id + 1) m ≡ true)
          → cond t true (some_kept old new (id + 1) m) ≡ true
      by_first true f ih = refl
      by_first false f ih =
          elim (ℕ_discrete id j) [
            | yes g ↦ absurd (false_not_true (sym f ∙ ap (kept old new) g ∙ alike_kept j name e d))
            | no n ↦ ih (omega arith) (omega arith) e d
          ]

-- ---- 10: taken
by_nothing : {P : Type 0} (j p : ℕ) → taken.By j p ≡ taken.Nothing → P
by_nothing j p e = let z : ◌≡◌ {A = ℕ} 0 1 = cc in absurd (omega arith)

module _ (old new : Names) (round : List ℕ) where
  -- no sighted id has the old name of j, unless j has it still
  abbrev pub Untaken : ℕ → Type 0
  Untaken j = (i : ℕ) (name : List ℕ) → In i round → old j ≡ some name → new i ≡ some name → new j ≡ some name

  untaken : (j : ℕ) → taker_of old new round j ≡ place.Nothing → Untaken j
  untaken j h i name m e d = by_case (lost old new j) refl h
    where
      by_case : (t : Bool) → lost old new j ≡ t → cond t (first_other new (old j) j round) place.Nothing ≡ place.Nothing → new j ≡ some name
      by_case false l q = kept_so old new j name l e
      by_case true l q = ap new (sym (no_other new j round (old j) name e q i m d)) ∙ d

  untaken_back : (j : ℕ) → Untaken j → taker_of old new round j ≡ place.Nothing
  untaken_back j h = by_case (lost old new j) refl
    where
      by_case : (t : Bool) → lost old new j ≡ t → cond t (first_other new (old j) j round) place.Nothing ≡ place.Nothing
      by_case false l = refl
      by_case true l =
          let w = lost_so old new j l in
          other_nowhere new j round (old j)
          (λ name i e m d. absurd (w.2 (h i w.0 m w.1 (d ∙ sym e ∙ w.1))))

  pub none_taken : (m id : ℕ) → first_taken old new round id m ≡ taken.Nothing → (j : ℕ) → id ≤ j → j < id + m → Untaken j
  unfolding first_taken
  none_taken zero id h j p q = absurd (omega arith)
  none_taken (suc m) id h j p q = by_case (taker_of old new round id) refl h (none_taken m (id + 1))
    where
      by_case : (x : Place) → taker_of old new round id ≡ x → taken_or id (first_taken old new round (id + 1) m) x ≡ taken.Nothing
          → (first_taken old new round (id + 1) m ≡ taken.Nothing → (k : ℕ) → id + 1 ≤ k → k < id + 1 + m → Untaken k) → Untaken j
      by_case (place.At x) e d ih = by_nothing id x d
      by_case place.Nothing e d ih =
          elim (ℕ_discrete id j) [
            | yes f ↦ untaken j (ap (taker_of old new round) (sym f) ∙ e)
            | no n ↦ ih d j (omega arith) (omega arith)
          ]

  pub taken_none : (m id : ℕ) → ((j : ℕ) → Untaken j) → first_taken old new round id m ≡ taken.Nothing
  unfolding first_taken
  taken_none zero id h = refl
  taken_none (suc m) id h =
      ap (taken_or id (first_taken old new round (id + 1) m)) (untaken_back id (h id)) ∙ taken_none m (id + 1) h
