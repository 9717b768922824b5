-- Entries of a list: those that a test keeps, the first id and the last name of them. Assumes nothing.
use Prim.Native.Nat.{ℕ}
use native.Mathlib.Omega.{arith}
use mathlib.Core.Path.{◌≡◌, refl, sym, ap, ◌∙◌, subst}
use mathlib.Core.Logic.{◌⊎◌, inl, inr}
use mathlib.Core.Bool.{Bool, true, false, cond}
use mathlib.Core.List.Memᴰ
use mathlib.Core.List.{List, [], ◌∷◌, Memᴰ}
use mathlib.Core.Option.{some}
use borrow.Author.Tests.{eq-eqb, eqb-true}
use Rattle.image.specs.Bytes.{filter}
use Rattle.image.specs.Image.{Entry, has_id, has_name}
use Rattle.image.proofs.Bools.{false_not_true}
use Rattle.image.proofs.Equal.{same_self, same_true}
use Rattle.image.proofs.AllOfList.{All, all_map}
use Rattle.lookup_laws.specs.Answer.{of_name, of_id, first_id, last_name}

-- each entry of a list is in it
pub each_in : (es : List Entry) → All (λ (e : Entry). Memᴰ e es) es
each_in [] = tt
each_in (e ∷ es) = (Memᴰ.head refl, all_map (λ x m. Memᴰ.tail m) es (each_in es))

-- what holds of each holds of one that is in it
pub at_one : (P : Entry → Type 0) (e : Entry) (es : List Entry) → All P es → Memᴰ e es → P e
at_one P e [] all m = absurd (Memᴰ.not-nil m)
at_one P e (x ∷ es) all m = first_or_rest (at_one P e es all.1) (Memᴰ.cases_cons m)
  where
    first_or_rest : (Memᴰ e es → P e) → (e ≡ x) ⊎ Memᴰ e es → P e
    first_or_rest rest (inl p) = subst P (sym p) all.0
    first_or_rest rest (inr n) = rest n

-- ---- what a test keeps

module _ (test : Entry → Bool) where
  kept : (P : Entry → Type 0) (es : List Entry) → All P es → All (λ (e : Entry). P e × (test e ≡ true)) (filter test es)
  unfolding filter
  kept P [] all = tt
  kept P (e ∷ es) all = with_first (test e) refl (kept P es all.1)
    where
      with_first : (t : Bool) → test e ≡ t → All (λ (x : Entry). P x × (test x ≡ true)) (filter test es)
          → All (λ (x : Entry). P x × (test x ≡ true)) (cond t (e ∷ filter test es) (filter test es))
      with_first true q rest = ((all.0, q), rest)
      with_first false q rest = rest

  kept_some : (e : Entry) → test e ≡ true → (es : List Entry) → Memᴰ e es → filter test es ≡ [] → ⊥
  unfolding filter
  kept_some e h [] m = absurd (Memᴰ.not-nil m)
  kept_some e h (x ∷ es) m = still_kept (test x) refl (kept_some e h es) (Memᴰ.cases_cons m)
    where
      still_kept : (t : Bool) → test x ≡ t → (Memᴰ e es → filter test es ≡ [] → ⊥) → (e ≡ x) ⊎ Memᴰ e es
          → cond t (x ∷ filter test es) (filter test es) ≡ [] → ⊥
      still_kept true q rest m z = let c : ◌≡◌ {A = ℕ} 0 1 = cc in omega arith
      still_kept false q rest (inl p) z = false_not_true (sym q ∙ sym (ap test p) ∙ h)
      still_kept false q rest (inr n) z = rest n z

  -- what holds of all that it keeps
  pub of_kept : (P : Entry → Type 0) (es : List Entry) → All P (filter test es) → All (λ (e : Entry). test e ≡ true → P e) es
  unfolding filter
  of_kept P [] all = tt
  of_kept P (e ∷ es) all = by_test (of_kept P es) (test e) refl all
    where
      by_test : (All P (filter test es) → All (λ (x : Entry). test x ≡ true → P x) es) → (t : Bool) → test e ≡ t
          → All P (cond t (e ∷ filter test es) (filter test es)) → All (λ (x : Entry). test x ≡ true → P x) (e ∷ es)
      by_test rest true q kept = (λ h. kept.0, rest kept.1)
      by_test rest false q kept = (λ h. absurd (false_not_true (sym q ∙ h)), rest kept)

-- ---- the first id and the last name of some entries

first_some : (es : List Entry) → ¬ (es ≡ []) → (id : ℕ) × (first_id es ≡ some id)
first_some [] n = absurd (n refl)
first_some (e ∷ es) n = (e.id, refl)

last_some : (es : List Entry) → ¬ (es ≡ []) → (name : List ℕ) × (last_name es ≡ some name)
last_some [] n = absurd (n refl)
last_some (e ∷ []) n = (e.name, refl)
last_some (e ∷ f ∷ es) n = last_some (f ∷ es) (λ z. let c : ◌≡◌ {A = ℕ} 0 1 = cc in omega arith)

module _ (P : Entry → Type 0) where
  first_of : (es : List Entry) (id : ℕ) → All P es → first_id es ≡ some id → (e : Entry) × P e × (e.id ≡ id)
  first_of [] id all h = absurd (let z : ◌≡◌ {A = ℕ} 0 1 = cc in omega arith)
  first_of (e ∷ es) id all h = (e, all.0, cc)

  last_of : (es : List Entry) (name : List ℕ) → All P es → last_name es ≡ some name → (e : Entry) × P e × (e.name ≡ name)
  last_of [] name all h = absurd (let z : ◌≡◌ {A = ℕ} 0 1 = cc in omega arith)
  last_of (e ∷ []) name all h = (e, all.0, cc)
  last_of (e ∷ f ∷ es) name all h = last_of (f ∷ es) name all.1 h

-- ---- of the entries of a name, and of an id

module _ (es : List Entry) where
  -- there is a first id of a name that is in the list, and a last name of an id
  pub name_first : (e : Entry) → Memᴰ e es → (id : ℕ) × (first_id (of_name e.name es) ≡ some id)
  unfolding of_name
  name_first e m = first_some (filter (has_name e.name) es) (kept_some (has_name e.name) e (same_self e.name) es m)

  pub id_last : (e : Entry) → Memᴰ e es → (name : List ℕ) × (last_name (of_id e.id es) ≡ some name)
  unfolding of_id
  id_last e m = last_some (filter (has_id e.id) es) (kept_some (has_id e.id) e (eq-eqb e.id e.id refl) es m)

  -- it is that of an entry of the list, of which holds what holds of each
  module _ (P : Entry → Type 0) (all : All P es) (name : List ℕ) (id : ℕ) where
    pub first_entry_lem : first_id (of_name name es) ≡ some id → (e : Entry) × P e × (e.name ≡ name) × (e.id ≡ id)
    unfolding of_name
    first_entry_lem h =
        let f = first_of (λ (e : Entry). P e × (has_name name e ≡ true)) (filter (has_name name) es) id (kept (has_name name) P es all) h in
        (f.0, f.1.0, same_true f.0.name name f.1.1, f.2)

    pub last_entry : last_name (of_id id es) ≡ some name → (e : Entry) × P e × (e.name ≡ name) × (e.id ≡ id)
    unfolding of_id
    last_entry h =
        let f = last_of (λ (e : Entry). P e × (has_id id e ≡ true)) (filter (has_id id) es) name (kept (has_id id) P es all) h in
        (f.0, f.1.0, f.2, eqb-true f.0.id id f.1.1)
