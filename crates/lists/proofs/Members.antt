-- Entries of a list: first and last of those that pass a test, and lists in which at most one does. Assumes nothing.
use Prim.Native.Nat.{ℕ, ◌≤◌}
use native.Mathlib.Omega.{arith}
use mathlib.Core.Path.{◌≡◌, refl, sym, ap, ◌∙◌}
use mathlib.Core.Logic.{◌⊎◌, inl, inr}
use mathlib.Core.Bool.{Bool, true, false, cond}
use mathlib.Core.List.{List, [], ◌∷◌}
use mathlib.Core.Option.{Option, some}
use lib.ListN.{length}
use borrow.Author.Tests.{eq-eqb, eqb-true}
use Rattle.image.specs.Bytes.{filter, same}
use Rattle.image.specs.Image.{Entry, has_id}
use Rattle.image.proofs.Lists.{filter_yes, filter-cons}
use Rattle.image.proofs.Equal.{same_self, same_true}
use Rattle.lookup_laws.specs.Answer.{has_name, of_name, of_id, first_id, last_name}
use Rattle.writer.specs.Put.{entry_of}

-- ---- an entry of a list

abbrev In : Entry → List Entry → Type 0
In e [] = ⊥
In e (x ∷ xs) = (x ≡ e) ⊎ In e xs

module _ (test : Entry → Bool) (e : Entry) where
  kept : (xs : List Entry) → In e xs → test e ≡ true → In e (filter test xs)
  kept [] m h = absurd m
  kept (x ∷ xs) (inl p) h = rw (filter_yes test x xs (ap test p ∙ h)) (inl p)
  kept (x ∷ xs) (inr m) h = rw (filter-cons test x xs) (kept_behind_first (test x) (kept xs m h))
    where
      kept_behind_first : (b : Bool) → In e (filter test xs) → In e (cond b (x ∷ filter test xs) (filter test xs))
      kept_behind_first true k = inr k
      kept_behind_first false k = k

  kept_from : (xs : List Entry) → In e (filter test xs) → In e xs × (test e ≡ true)
  unfolding filter
  kept_from [] m = absurd m
  kept_from (x ∷ xs) m = from_first (test x) refl (kept_from xs) m
    where
      from_first : (b : Bool) → test x ≡ b → (In e (filter test xs) → In e xs × (test e ≡ true)) → In e (cond b (x ∷ filter test xs) (filter test xs))
          → In e (x ∷ xs) × (test e ≡ true)
      from_first true t rest (inl p) = (inl p, sym (ap test p) ∙ t)
      from_first true t rest (inr k) = (inr (rest k).0, (rest k).1)
      from_first false t rest k = (inr (rest k).0, (rest k).1)

-- a list of at most one entry, with an entry
only_one : (e : Entry) (xs : List Entry) → In e xs → length xs ≤ 1 → xs ≡ e ∷ []
only_one e [] m h = absurd m
only_one e (x ∷ []) (inl p) h = ap {B = List Entry} (λ (y : Entry). y ∷ []) p
only_one e (x ∷ []) (inr m) h = absurd m
only_one e (x ∷ y ∷ xs) m h = absurd (omega arith)

-- ---- first and last

first_in : (xs : List Entry) (id : ℕ) → first_id xs ≡ some id → (e : Entry) × In e xs × (e.id ≡ id)
first_in [] id h = absurd (let z : ◌≡◌ {A = ℕ} 0 1 = cc in omega arith)
first_in (x ∷ xs) id h = (x, inl refl, cc)

last_in : (xs : List Entry) (name : List ℕ) → last_name xs ≡ some name → (e : Entry) × In e xs × (e.name ≡ name)
last_in [] name h = absurd (let z : ◌≡◌ {A = ℕ} 0 1 = cc in omega arith)
last_in (x ∷ []) name h = (x, inl refl, cc)
last_in (x ∷ y ∷ xs) name h = let m = last_in (y ∷ xs) name h in (m.0, inr m.1, m.2)

in-first : (e : Entry) (xs : List Entry) → In e xs → (id : ℕ) × (first_id xs ≡ some id)
in-first e [] m = absurd m
in-first e (x ∷ xs) m = (x.id, refl)

-- ---- names and ids

module _ (es : List Entry) (name : List ℕ) (id : ℕ) where
  -- an id's last name is the name of some entry, so that name has a first
  pub named_first : last_name (of_id id es) ≡ some name → (first : ℕ) × (first_id (of_name name es) ≡ some first)
  unfolding of_name of_id
  named_first h =
      let m = last_in (filter (has_id id) es) name h in
      let there = kept_from (has_id id) m.0 es m.1 in
      in-first m.0 (filter (has_name name) es) (kept (has_name name) m.0 es there.0 (ap (λ (l : List ℕ). same l name) m.2 ∙ same_self name))

  -- where an id was put at most once, the entry by which a name gives it names it
  pub first_last : length (of_id id es) ≤ 1 → first_id (of_name name es) ≡ some id → last_name (of_id id es) ≡ some name
  unfolding of_name of_id
  first_last one h =
      let m = first_in (filter (has_name name) es) id h in
      let there = kept_from (has_name name) m.0 es m.1 in
      let single = only_one m.0 (filter (has_id id) es) (kept (has_id id) m.0 es there.0 (eq-eqb m.0.id id m.2)) one in
      ap last_name single ∙ ap {B = Option (List ℕ)} (λ (l : List ℕ). some l) (same_true m.0.name name there.1)

  pub last_first : length (of_name name es) ≤ 1 → last_name (of_id id es) ≡ some name → first_id (of_name name es) ≡ some id
  unfolding of_name of_id
  last_first one h =
      let m = last_in (filter (has_id id) es) name h in
      let there = kept_from (has_id id) m.0 es m.1 in
      let single =
      only_one m.0 (filter (has_name name) es)
      (kept (has_name name) m.0 es there.0 (ap (λ (l : List ℕ). same l name) m.2 ∙ same_self name)) one in
      ap first_id single ∙ ap {B = Option ℕ} (λ (i : ℕ). some i) (eqb-true m.0.id id there.1)

  -- where a name was put at most once, the entry by which it gives an id is its only one
  pub only_entry : length (of_name name es) ≤ 1 → first_id (of_name name es) ≡ some id → of_name name es ≡ entry_of name id ∷ []
  unfolding of_name
  only_entry one h =
      let m = first_in (filter (has_name name) es) id h in
      let there = kept_from (has_name name) m.0 es m.1 in
      let named = same_true m.0.name name there.1 in
      only_one m.0 (filter (has_name name) es) m.1 one ∙ ap {B = List Entry} (λ (y : Entry). y ∷ []) (λ i. record { name = named i; id = m.2 i })
