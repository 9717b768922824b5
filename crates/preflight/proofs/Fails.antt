-- What each verdict says (`specs/Theorems/Fails`): by the branch that gives it. Assumes nothing.
use Prim.Native.Nat.{ℕ, zero, suc, ◌+◌}
use native.Mathlib.Omega.{arith}
use mathlib.Core.Path.{◌≡◌, refl, sym, ap, ◌∙◌}
use mathlib.Core.Bool.{Bool, true, false, cond, not}
use mathlib.Core.List.{List, [], ◌∷◌}
use mathlib.Core.Option.{Option, none, some}
use lib.Dec.{eqb}
use lib.ListN.{length, get_elem?}
use Rattle.reader.specs.Naming.{name_given}
use Rattle.reader.specs.IdWalk.{upper_hint}
use borrow.Author.Tests.{eqb-true, eqb-false}
use Rattle.image.proofs.Bools.{false_not_true}
use Rattle.preflight.specs.Ids.{occurs, first_place}
use Rattle.preflight.specs.Names.{Names, is_empty, is_name, other_has, first_other, lost, renamed, first_renamed, nameless, first_nameless}
use Rattle.preflight.specs.Exchanges.{shared_or, first_shared, first_shared_in, taker_of, taken_or, first_taken, first_taken_in}
use Rattle.preflight.specs.Theorems.Asked.{In}
use Rattle.preflight.specs.Theorems.Fails.{ShowsNameless, ShowsShared, ShowsRenamed, ShowsTaken}
use Rattle.preflight.specs.Answers.Place.{Place}
use Rattle.preflight.specs.Answers.Place as place
use Rattle.preflight.specs.Answers.Shared as shared
use Rattle.preflight.specs.Answers.Taken as taken
use Rattle.preflight.proofs.Members.{at_nothing, in_occurs}
use Rattle.preflight.proofs.Questions as asked

-- ---- the place that a search finds
nothing_at : {P : Type 0} (p : ℕ) → place.Nothing ≡ place.At p → P
nothing_at p e = at_nothing p (sym e)

same_place : (p q : ℕ) → place.At p ≡ place.At q → p ≡ q
same_place p q e = cc

-- the id k places behind the first, whose place is n
record Found (test : ℕ → Bool) (n : ℕ) (xs : List ℕ) (p : ℕ) : Type 0 where
  pub id : ℕ
  pub behind : ℕ
  pub is : n + behind ≡ p
  pub there : get_elem? xs behind ≡ some id
  pub passes : test id ≡ true

found : (test : ℕ → Bool) (n : ℕ) (xs : List ℕ) (p : ℕ) → first_place test n xs ≡ place.At p → Found test n xs p
unfolding first_place
found test n [] p e = nothing_at p e
found test n (x ∷ xs) p e = by_first (test x) refl e (found test (suc n) xs p)
  where
    by_first : (t : Bool) → test x ≡ t → cond t (place.At n) (first_place test (suc n) xs) ≡ place.At p
        → (first_place test (suc n) xs ≡ place.At p → Found test (suc n) xs p) → Found test n (x ∷ xs) p
    by_first true f q ih =
        let s = same_place n p q in
        record { id = x; behind = 0; is = omega (arith, s); there = refl; passes = f }
    by_first false f q ih =
        let r = ih q in
        let i = r.is in
        record { id = r.id; behind = suc r.behind; is = omega (arith, i); there = r.there; passes = r.passes }

-- from the first place on
pub record FoundAt (test : ℕ → Bool) (xs : List ℕ) (p : ℕ) : Type 0 where
  pub id : ℕ
  pub there : get_elem? xs p ≡ some id
  pub passes : test id ≡ true

pub found_at : (test : ℕ → Bool) (xs : List ℕ) (p : ℕ) → first_place test 0 xs ≡ place.At p → FoundAt test xs p
found_at test xs p e =
    let f = found test 0 xs p e in
    let i = f.is in
    let s : f.behind ≡ p = omega (arith, i) in
    record { id = f.id; there = sym (ap (get_elem? xs) s) ∙ f.there; passes = f.passes }

-- ---- what a search of names finds
record OtherFound (new : Names) (x : Option (List ℕ)) (id : ℕ) (round : List ℕ) (q : ℕ) : Type 0 where
  pub name : List ℕ
  pub given : x ≡ some name
  pub other : ℕ
  pub there : get_elem? round q ≡ some other
  pub different : ¬ (other ≡ id)
  pub has : new other ≡ some name

other_found : (new : Names) (x : Option (List ℕ)) (id : ℕ) (round : List ℕ) (q : ℕ) → first_other new x id round ≡ place.At q
    → OtherFound new x id round q
other_found new none id round q e = nothing_at q e
other_found new (some name) id round q e =
    let f = found_at (other_has new name id) round q e in
    let t = by_test f.id (eqb f.id id) refl f.passes in
    record { name = name; given = refl; other = f.id; there = f.there; different = t.0; has = asked.is_name_lem (new f.id) name t.1 }
  where
    by_test : (o : ℕ) (t : Bool) → eqb o id ≡ t → cond t false (is_name (new o) name) ≡ true → ¬ (o ≡ id) × (is_name (new o) name ≡ true)
    by_test o true f h = absurd (false_not_true h)
    by_test o false f h = (eqb-false o id f, h)

-- two different ids with one name
no_places : {P : Type 0} (p q : ℕ) → shared.Nothing ≡ shared.Places p q → P
no_places p q e = let z : ◌≡◌ {A = ℕ} 0 1 = cc in absurd (omega arith)

first_of : (p q r s : ℕ) → shared.Places p q ≡ shared.Places r s → p ≡ r
first_of p q r s e = cc

second_of : (p q r s : ℕ) → shared.Places p q ≡ shared.Places r s → q ≡ s
second_of p q r s e = cc

record SharedFound (new : Names) (round : List ℕ) (n : ℕ) (xs : List ℕ) (p q : ℕ) : Type 0 where
  pub id : ℕ
  pub behind : ℕ
  pub is : n + behind ≡ p
  pub there : get_elem? xs behind ≡ some id
  pub other : first_other new (new id) id round ≡ place.At q

shared_found : (new : Names) (round : List ℕ) (n : ℕ) (xs : List ℕ) (p q : ℕ) → first_shared new round n xs ≡ shared.Places p q
    → SharedFound new round n xs p q
unfolding first_shared
shared_found new round n [] p q e = no_places p q e
shared_found new round n (x ∷ xs) p q e = by_first (first_other new (new x) x round) refl e (shared_found new round (suc n) xs p q)
  where
    by_first : (y : Place) → first_other new (new x) x round ≡ y → shared_or n (first_shared new round (suc n) xs) y ≡ shared.Places p q
        → (first_shared new round (suc n) xs ≡ shared.Places p q → SharedFound new round (suc n) xs p q) → SharedFound new round n (x ∷ xs) p q
    by_first (place.At o) f h ih =
        let s = first_of n o p q h in
        record { id = x; behind = 0; is = omega (arith, s); there = refl; other = f ∙ ap place.At (second_of n o p q h) }
    by_first place.Nothing f h ih =
        let r = ih h in
        let i = r.is in
        record { id = r.id; behind = suc r.behind; is = omega (arith, i); there = r.there; other = r.other }

-- a name that a sighted id took
no_taker : {P : Type 0} (j p : ℕ) → taken.Nothing ≡ taken.By j p → P
no_taker j p e = let z : ◌≡◌ {A = ℕ} 0 1 = cc in absurd (omega arith)

who : (i p j q : ℕ) → taken.By i p ≡ taken.By j q → i ≡ j
who i p j q e = cc

where_to : (i p j q : ℕ) → taken.By i p ≡ taken.By j q → p ≡ q
where_to i p j q e = cc

taken_found : (old new : Names) (round : List ℕ) (m id j p : ℕ) → first_taken old new round id m ≡ taken.By j p → taker_of old new round j ≡ place.At p
unfolding first_taken
taken_found old new round zero id j p e = no_taker j p e
taken_found old new round (suc m) id j p e = by_first (taker_of old new round id) refl e (taken_found old new round m (id + 1) j p)
  where
    by_first : (x : Place) → taker_of old new round id ≡ x → taken_or id (first_taken old new round (id + 1) m) x ≡ taken.By j p
        → (first_taken old new round (id + 1) m ≡ taken.By j p → taker_of old new round j ≡ place.At p) → taker_of old new round j ≡ place.At p
    by_first (place.At o) f h ih =
        sym (ap (taker_of old new round) (who id o j p h)) ∙ f ∙ ap place.At (where_to id o j p h)
    by_first place.Nothing f h ih = ih h

taker_so : (old new : Names) (round : List ℕ) (j p : ℕ) → taker_of old new round j ≡ place.At p
    → (lost old new j ≡ true) × (first_other new (old j) j round ≡ place.At p)
taker_so old new round j p e = by_loss (lost old new j) refl e
  where
    by_loss : (t : Bool) → lost old new j ≡ t → cond t (first_other new (old j) j round) place.Nothing ≡ place.At p
        → (lost old new j ≡ true) × (first_other new (old j) j round ≡ place.At p)
    by_loss true f h = (f, h)
    by_loss false f h = nothing_at p h

-- ---- the verdicts that show a place
module _ (old new round accepted : List ℕ) where
  pub shows_nameless : (p : ℕ) → first_nameless (name_given new) round ≡ place.At p → ShowsNameless new round p
  shows_nameless p e =
      let f = found_at (nameless (name_given new)) round p e in
      record { id = f.id; there = f.there; nameless = λ name d. empty_name (name_given new f.id) name f.passes d }
    where
      no_bytes : (xs : List ℕ) → eqb (length xs) 0 ≡ true → xs ≡ []
      no_bytes [] h = refl
      no_bytes (x ∷ xs) h = let z = eqb-true (suc (length xs)) 0 h in absurd (omega (arith, z))

      empty_name : (x : Option (List ℕ)) (name : List ℕ) → is_empty x ≡ true → x ≡ some name → name ≡ []
      empty_name x name h d = no_bytes name (sym (ap is_empty d) ∙ h)

  pub shows_shared : (p q : ℕ) → first_shared_in (name_given new) round ≡ shared.Places p q → ShowsShared new round p q
  shows_shared p q e =
      let f = shared_found (name_given new) round 0 round p q e in
      let i = f.is in
      let s : f.behind ≡ p = omega (arith, i) in
      let o = other_found (name_given new) (name_given new f.id) f.id round q f.other in
      record {
        id = f.id;
        other = o.other;
        name = o.name;
        there = sym (ap (get_elem? round) s) ∙ f.there;
        other_there = o.there;
        different = o.different;
        has = o.given;
        other_has = o.has;
      }

  pub shows_renamed : (p : ℕ) → first_renamed (name_given old) (name_given new) accepted round ≡ place.At p → ShowsRenamed old new round accepted p
  shows_renamed p e =
      let f = found_at (renamed (name_given old) (name_given new) accepted) round p e in
      let t = by_tests f.id (lost (name_given old) (name_given new) f.id) refl (occurs f.id accepted) refl f.passes in
      let l = asked.lost_so (name_given old) (name_given new) f.id t.0 in
      record { id = f.id; name = l.0; there = f.there; unaccepted = t.1; had = l.1; lost = l.2 }
    where
      by_tests : (i : ℕ) (s : Bool) → lost (name_given old) (name_given new) i ≡ s → (t : Bool) → occurs i accepted ≡ t → cond s (not t) false ≡ true
          → (lost (name_given old) (name_given new) i ≡ true) × ¬ In i accepted
      by_tests i true d false f h = (d, λ m. false_not_true (sym f ∙ in_occurs i accepted m))
      by_tests i true d true f h = absurd (false_not_true h)
      by_tests i false d t f h = absurd (false_not_true h)

  pub shows_taken : (j p : ℕ) → first_taken_in old new round ≡ taken.By j p → ShowsTaken old new round j p
  shows_taken j p e =
      let t = taker_so (name_given old) (name_given new) round j p (taken_found (name_given old) (name_given new) round (upper_hint old 0) 0 j p e) in
      let o = other_found (name_given new) (name_given old j) j round p t.1 in
      let l = asked.lost_so (name_given old) (name_given new) j t.0 in
      record {
        id = o.other;
        name = o.name;
        there = o.there;
        had = o.given;
        lost = λ d. l.2 (d ∙ sym o.given ∙ l.1);
        taken = o.has;
      }
