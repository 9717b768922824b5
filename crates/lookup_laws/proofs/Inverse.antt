-- Lookup and naming together, in a two-way image: a name that an id gives is found, and where each name and each id was put once the two are
-- inverse. Assumes nothing.
use mathlib.Core.Path.{◌≡◌, refl, sym, ap, ◌∙◌}
use mathlib.Core.Bool.{Bool, true, false, cond}
use mathlib.Core.List.{List, [], ◌∷◌}
use mathlib.Core.Option.{Option, some}
use mathlib.Core.Logic.{◌↔◌}
use Prim.Native.Nat.{ℕ, ◌≤◌}
use native.Mathlib.Omega.{arith}
use borrow.Author.Tests.{eq-eqb, eqb-true}
use lib.ListN.{length}
use Rattle.image.specs.Bytes.{filter, same}
use Rattle.image.specs.Image.{Entry, has_id, image_size, image}
use Rattle.image.specs.declared.Mode.TheVariants.{Twoway}
use Rattle.image.proofs.Bools.{chose_first}
use Rattle.image.proofs.Lists.{filter_nil, filter_yes, filter_no}
use Rattle.reader.specs.Lookup.{lookup}
use Rattle.lookup_laws.specs.Answer.{found_id, name_given, has_name, of_name, of_id, first_id, last_name}
use Rattle.image.proofs.Equal.{same_self, same_true}
use Rattle.lookup_laws.proofs.ImageAnswers.{name_gives, id_gives, ids_fit}

-- two tests in either order
module _ {A : Type 0} (f g : A → Bool) where
  keep_swap : (xs : List A) → filter f (filter g xs) ≡ filter g (filter f xs)
  unfolding filter
  keep_swap [] = refl
  keep_swap (x ∷ xs) = swap_with_first (f x) refl (g x) refl (keep_swap xs)
    where
      swap_with_first : (s : Bool) → f x ≡ s → (t : Bool) → g x ≡ t → filter f (filter g xs) ≡ filter g (filter f xs)
          → filter f (cond t (x ∷ filter g xs) (filter g xs)) ≡ filter g (cond s (x ∷ filter f xs) (filter f xs))
      swap_with_first true p true q ih = filter_yes f x (filter g xs) p ∙ ap (λ (l : List A). x ∷ l) ih ∙ sym (filter_yes g x (filter f xs) q)
      swap_with_first true p false q ih = ih ∙ sym (filter_no g x (filter f xs) q)
      swap_with_first false p true q ih = filter_no f x (filter g xs) p ∙ ih
      swap_with_first false p false q ih = ih

-- where at most one stands, and one passes, it is that one
module _ {A : Type 0} (f : A → Bool) where
  keep_one : (e : A) (xs : List A) → length xs ≤ 1 → filter f xs ≡ e ∷ [] → (xs ≡ e ∷ []) × (f e ≡ true)
  unfolding filter
  keep_one e [] h q = let z : ◌≡◌ {A = ℕ} 0 1 = cc in absurd (omega arith)
  keep_one e (x ∷ []) h q =
      let kept = chose_first (f x) (x ∷ []) [] (e ∷ []) (λ none. let z : ◌≡◌ {A = ℕ} 0 1 = cc in omega arith) q in
      let is : x ≡ e = cc kept.1 in
      (kept.1, sym (ap f is) ∙ kept.0)
  keep_one e (x ∷ y ∷ xs) h q = absurd (omega arith)

-- ---- on the entries

-- the entries of an id that have a name are those of the name that have the id
swapped : (name : List ℕ) (id : ℕ) (es : List Entry) → filter (has_id id) (of_name name es) ≡ filter (has_name name) (of_id id es)
unfolding of_name of_id
swapped name id es = keep_swap (has_id id) (has_name name) es

module _ (es : List Entry) (names : (name : List ℕ) → length (of_name name es) ≤ 1) (ids : (id : ℕ) → length (of_id id es) ≤ 1) (name : List ℕ) (id : ℕ) where
  first_last : (xs : List Entry) → of_name name es ≡ xs → length xs ≤ 1 → first_id xs ≡ some id → last_name (of_id id es) ≡ some name
  first_last [] e h q = let z : ◌≡◌ {A = ℕ} 0 1 = cc in absurd (omega arith)
  first_last (x ∷ []) e h q =
      let i : x.id ≡ id = cc in
      let k : filter (has_name name) (of_id id es) ≡ x ∷ [] =
      sym (swapped name id es)
      ∙ ap (filter (has_id id)) e
      ∙ filter_yes (has_id id) x [] (eq-eqb x.id id i)
      ∙ ap (λ (l : List Entry). x ∷ l) (filter_nil (has_id id)) in
      let one = keep_one (has_name name) x (of_id id es) (ids id) k in
      ap last_name one.0 ∙ ap {B = Option (List ℕ)} some (same_true x.name name one.1)
  first_last (x ∷ y ∷ xs) e h q = absurd (omega arith)

  last_first : (xs : List Entry) → of_id id es ≡ xs → length xs ≤ 1 → last_name xs ≡ some name → first_id (of_name name es) ≡ some id
  last_first [] e h q = let z : ◌≡◌ {A = ℕ} 0 1 = cc in absurd (omega arith)
  last_first (x ∷ []) e h q =
      let i : x.name ≡ name = cc in
      let t : same x.name name ≡ true = ap (λ (l : List ℕ). same l name) i ∙ same_self name in
      let k : filter (has_id id) (of_name name es) ≡ x ∷ [] =
      swapped name id es
      ∙ ap (filter (has_name name)) e
      ∙ filter_yes (has_name name) x [] t
      ∙ ap (λ (l : List Entry). x ∷ l) (filter_nil (has_name name)) in
      let one = keep_one (has_id id) x (of_name name es) (names name) k in
      ap first_id one.0 ∙ ap {B = Option ℕ} some (eqb-true x.id id one.1)
  last_first (x ∷ y ∷ xs) e h q = absurd (omega arith)

-- ---- on the image

module _ (es : List Entry) (fits : image_size Twoway es ≤ 4294967295) where
  -- each name once and each id once
  pub inverse : ((name : List ℕ) → length (of_name name es) ≤ 1) → ((id : ℕ) → length (of_id id es) ≤ 1) → (name : List ℕ) (id : ℕ)
      → (found_id (lookup (image Twoway es) name) ≡ some id) ↔ (name_given (image Twoway es) id ≡ some name)
  inverse names ids name id = (
    λ q. id_gives es fits id ∙ first_last es names ids name id (of_name name es) refl (names name)
        (sym (name_gives Twoway es fits (ids_fit es fits) name) ∙ q),
    λ q. name_gives Twoway es fits (ids_fit es fits) name ∙ last_first es names ids name id (of_id id es) refl (ids id) (sym (id_gives es fits id) ∙ q),
  )
