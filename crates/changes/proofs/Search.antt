-- The search for the first id that differs: its steps, what it finds, and what repeated calls list. Assumes nothing.
use Prim.Native.Nat.{ℕ, zero, suc, ◌+◌, ◌-◌, ◌≤◌, ◌<◌}
use native.Mathlib.Omega.{arith}
use native.Mathlib.Numerals.{add-one}
use native.Mathlib.Decide.{ℕ_discrete}
use mathlib.Core.Path.{◌≡◌, refl, sym, ap, ◌∙◌}
use mathlib.Core.Bool.{Bool, true, false}
use mathlib.Core.List.{List, [], ◌∷◌}
use mathlib.Core.Option.{Option, none, some}
use Rattle.std.specs.Prelude as code
use Rattle.image.specs.Bytes.{filter, range}
use Rattle.image.proofs.Lists.{filter_yes, filter_no}
use Rattle.reader.specs.Naming.{Naming, naming}
use Rattle.changes.specs.Changes.{upper, differs, first_among, first_change, changed, unchanged, change_at, next_change}
use Rattle.changes.specs.Theorems.Theorem.{calls}

-- none is no some
pub none_some : {A : Type 0} {P : Type 0} (x : A) → none ≡ some x → P
none_some x e = let z : ◌≡◌ {A = ℕ} 0 1 = cc in absurd (omega arith)

module _ (old new : List ℕ) where
  -- ---- the steps of the search

  among_differs : (from m : ℕ) → differs old new from ≡ true → first_among old new from (suc m) ≡ some from
  unfolding first_among
  among_differs from m h = ap (λ (t : Bool). elim t [ true ↦ some from | false ↦ first_among old new (from + 1) m ]) h

  among_alike : (from m : ℕ) → differs old new from ≡ false → first_among old new from (suc m) ≡ first_among old new (from + 1) m
  unfolding first_among
  among_alike from m h = ap (λ (t : Bool). elim t [ true ↦ some from | false ↦ first_among old new (from + 1) m ]) h

  -- from the start, where the bound is found
  pub starts : (from u : ℕ) → u ≡ upper old new → first_among old new from (u - from) ≡ first_change old new from
  unfolding first_change
  starts from u e = ap (λ (k : ℕ). first_among old new from (k - from)) e

  -- ---- what it finds

  -- k is the first from `from` on, below u
  pub record FirstBelow (from k u : ℕ) : Type 0 where
    pub from_there : from ≤ k
    pub below : k < u
    pub unlike : differs old new k ≡ true
    pub alike_before : (i : ℕ) → from ≤ i → i < k → differs old new i ≡ false

  pub found_first : (m from k : ℕ) → first_among old new from m ≡ some k → FirstBelow from k (from + m)
  unfolding first_among
  found_first zero from k e = cc
  found_first (suc m) from k e = here_or_later (found_first m (from + 1) k) (differs old new from) refl e
    where
      here_or_later : (first_among old new (from + 1) m ≡ some k → FirstBelow (from + 1) k (from + 1 + m)) → (t : Bool) → differs old new from ≡ t
          → elim t [ true ↦ some from | false ↦ first_among old new (from + 1) m ] ≡ some k → FirstBelow from k (from + suc m)
      here_or_later ih true d e =
          let f : from ≡ k = cc in
          record { from_there = omega arith; below = omega arith; unlike = ap (differs old new) (sym f) ∙ d; alike_before = λ i p q. absurd (omega arith) }
      here_or_later ih false d e =
          let r = ih e in
          record {
            from_there = omega (arith, r.from_there);
            below = omega (arith, r.below);
            unlike = r.unlike;
            alike_before = λ i p q. elim (ℕ_discrete from i) [
              | yes f ↦ ap (differs old new) (sym f) ∙ d
              | no n ↦ r.alike_before i (omega arith) q
            ];
          }

  pub first_found : (m from k : ℕ) → FirstBelow from k (from + m) → first_among old new from m ≡ some k
  first_found zero from k w = absurd (omega (arith, w.from_there, w.below))
  first_found (suc m) from k w =
      elim (ℕ_discrete from k) [
        | yes f ↦ among_differs from m (ap (differs old new) f ∙ w.unlike) ∙ ap some f
        | no n ↦
            among_alike from m (w.alike_before from (omega arith) (omega (arith, w.from_there)))
            ∙ first_found m (from + 1) k (record {
              from_there = omega (arith, w.from_there);
              below = omega (arith, w.below);
              unlike = w.unlike;
              alike_before = λ i p q. w.alike_before i (omega arith) q;
            })
      ]

  pub none_all : (m from : ℕ) → first_among old new from m ≡ none → (i : ℕ) → from ≤ i → i < from + m → differs old new i ≡ false
  unfolding first_among
  none_all zero from e i p q = absurd (omega arith)
  none_all (suc m) from e i p q = alike_here (none_all m (from + 1)) (differs old new from) refl e
    where
      alike_here : (first_among old new (from + 1) m ≡ none → (j : ℕ) → from + 1 ≤ j → j < from + 1 + m → differs old new j ≡ false)
          → (t : Bool) → differs old new from ≡ t
          → ◌≡◌ {A = Option ℕ} (elim t [ true ↦ some from | false ↦ first_among old new (from + 1) m ]) none → differs old new i ≡ false
      alike_here ih true d e = cc
      alike_here ih false d e = elim (ℕ_discrete from i) [ yes f ↦ ap (differs old new) (sym f) ∙ d | no n ↦ ih e i (omega arith) (omega arith) ]

  pub all_none : (m from : ℕ) → ((i : ℕ) → from ≤ i → i < from + m → differs old new i ≡ false) → first_among old new from m ≡ none
  unfolding first_among
  all_none zero from h = refl
  all_none (suc m) from h =
      among_alike from m (h from (omega arith) (omega arith)) ∙ all_none m (from + 1) (λ i p q. h i (omega arith) (omega arith))

  -- ---- what the code answers: it looks for the first id that differs among those from `from` on below the bound

  abbrev pub Looked : (from u : ℕ) → code.Option ℕ → Type 0
  Looked from u r =
      code.MatchOption r ((i : ℕ) → from ≤ i → i < u → differs old new i ≡ false)
      (λ k. (from ≤ k) × (k < u) × (differs old new k ≡ true) × ((i : ℕ) → from ≤ i → i < k → differs old new i ≡ false))

  pub answers_change : (from u id : ℕ) (r : code.Option ℕ) (a b : Naming) → Looked from u r → u ≡ upper old new → r ≡ code.Some id
      → a ≡ naming old id → b ≡ naming new id → changed id a b ≡ next_change old new from
  answers_change from u id r a b w e q f g =
      let (p, below, unlike, alike) = rw q at w in
      let first = first_found (u - from) from id (record { from_there = p; below = omega arith; unlike = unlike; alike_before = alike }) in
      (λ i. changed id (f i) (g i)) ∙ ap (change_at old new) (sym first ∙ starts from u e)

  pub answers_none : (from u : ℕ) (r : code.Option ℕ) → Looked from u r → u ≡ upper old new → r ≡ code.None
      → unchanged ≡ next_change old new from
  answers_none from u r w e q =
      let alike = rw q at w in
      ap (change_at old new) (sym (all_none (u - from) from (λ i p h. alike i p (omega arith))) ∙ starts from u e)

  -- at the bound and above it there is none
  pub answers_none_above : (from : ℕ) → upper old new ≤ from → unchanged ≡ next_change old new from
  answers_none_above from h =
      answers_none from (upper old new) code.None (λ i p q. absurd (omega arith)) refl refl

  -- ---- what repeated calls list

  -- the ids that differ, of m ids from `from` on
  abbrev kept : ℕ → ℕ → List ℕ
  kept from m = filter (differs old new) (range from m)

  kept_yes : (from m : ℕ) → differs old new from ≡ true → kept from (suc m) ≡ from ∷ kept (from + 1) m
  unfolding range
  kept_yes from m d =
      filter_yes (differs old new) from (range (suc from) m) d ∙ ap (λ (k : ℕ). from ∷ kept k m) (sym (add-one from))

  kept_no : (from m : ℕ) → differs old new from ≡ false → kept from (suc m) ≡ kept (from + 1) m
  unfolding range
  kept_no from m d = filter_no (differs old new) from (range (suc from) m) d ∙ ap (λ (k : ℕ). kept k m) (sym (add-one from))

  kept_none : (m from : ℕ) → ((i : ℕ) → from ≤ i → i < from + m → differs old new i ≡ false) → kept from m ≡ []
  unfolding range filter
  kept_none zero from h = refl
  kept_none (suc m) from h =
      kept_no from m (h from (omega arith) (omega arith)) ∙ kept_none m (from + 1) (λ i p q. h i (omega arith) (omega arith))

  kept_some : (m from k : ℕ) → FirstBelow from k (from + m) → kept from m ≡ k ∷ kept (k + 1) (from + m - (k + 1))
  kept_some zero from k w = absurd (omega (arith, w.from_there, w.below))
  kept_some (suc m) from k w =
      elim (ℕ_discrete from k) [
        | yes f ↦
            let n : m ≡ from + suc m - (from + 1) = omega arith in
            kept_yes from m (ap (differs old new) f ∙ w.unlike)
            ∙ ap (λ (l : ℕ). from ∷ kept (from + 1) l) n
            ∙ ap (λ (j : ℕ). j ∷ kept (j + 1) (from + suc m - (j + 1))) f
        | no n ↦
            let e : from + 1 + m - (k + 1) ≡ from + suc m - (k + 1) = omega arith in
            kept_no from m (w.alike_before from (omega arith) (omega (arith, w.from_there)))
            ∙ kept_some m (from + 1) k (record {
              from_there = omega (arith, w.from_there);
              below = omega (arith, w.below);
              unlike = w.unlike;
              alike_before = λ i p q. w.alike_before i (omega arith) q;
            })
            ∙ ap (λ (l : ℕ). k ∷ kept (k + 1) l) e
      ]

  pub lists_changes : (m from : ℕ) → upper old new - from ≤ m → calls old new from m ≡ kept from (upper old new - from)
  unfolding calls range filter
  lists_changes zero from h =
      let e : 0 ≡ upper old new - from = omega arith in
      ap (kept from) e
  lists_changes (suc m) from h = lists_from (lists_changes m) (first_change old new from) refl
    where
      u : ℕ
      u = upper old new

      found : (x : Option ℕ) → first_change old new from ≡ x → first_among old new from (u - from) ≡ x
      found x e = starts from u refl ∙ e

      lists_from : ((f : ℕ) → u - f ≤ m → calls old new f m ≡ kept f (u - f)) → (x : Option ℕ) → first_change old new from ≡ x
          → elim x [ some id ↦ id ∷ calls old new (id + 1) m | none ↦ [] ] ≡ kept from (u - from)
      lists_from ih none e = sym (kept_none (u - from) from (none_all (u - from) from (found none e)))
      lists_from ih (some k) e =
          let w = found_first (u - from) from k (found (some k) e) in
          let below : k < u = omega (arith, w.from_there, w.below) in
          let n : from + (u - from) - (k + 1) ≡ u - (k + 1) = omega (arith, w.from_there) in
          ap (λ (l : List ℕ). k ∷ l) (ih (k + 1) (omega (arith, w.from_there, below)))
          ∙ sym (kept_some (u - from) from k w ∙ ap (λ (l : ℕ). k ∷ kept (k + 1) l) n)
