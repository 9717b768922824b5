-- The entries of a name, of its table and of an id: among the entries alone, and where they stand. Assumes nothing.
use mathlib.Core.Path.{◌≡◌, refl, ap, ◌∙◌}
use mathlib.Core.Bool.{Bool, true, false, cond, ◌||◌}
use mathlib.Core.List.{List, [], ◌∷◌, map}
use mathlib.Core.Option
use mathlib.Core.Option.{some}
use Prim.Native.Nat.{ℕ, ◌+◌, ◌≤◌, ◌<◌}
use native.Mathlib.Omega.{arith}
use borrow.Author.Tests.{eq-eqb}
use lib.Dec.{eqb}
use lib.ListN.{length}
use Rattle.jhash.specs.NameHash.{hash_of}
use Rattle.image.specs.Bytes.{filter, same}
use Rattle.image.specs.Tables.{table_of}
use Rattle.image.specs.Image.{Entry, Placed, entry_size, entries_size, placed, in_table, of_table, has_id}
use Rattle.reader.specs.Lookup.{Hit, Probe, pass, hit}
use Rattle.consistency.specs.Matches.{Matches, matched, ended, any_match}
use Rattle.lookup_laws.specs.Answer.{has_name, of_name, of_id, first_id, last_name, first_at}
use Rattle.image.proofs.AllOfList.{All}
use Rattle.image.proofs.Equal.{same_self, same_true, same_false}
use Rattle.lookup_laws.proofs.Scan.{first_of, match_hits}
use Rattle.lookup_laws.proofs.SearchFilling.{hits_in}

-- ---- the entries of a name

-- what an entry tells, and what a search for a name makes of it
abbrev pub hit_of_entry : Placed → Hit
hit_of_entry p = record { id = p.entry.id; offset = p.at }

abbrev pub probe_of_entry : List ℕ → Placed → Probe
probe_of_entry name p = cond (same p.entry.name name) (hit (hit_of_entry p)) pass

-- what the entries of a name tell, in their order, where the entries stand from o on
unfoldable pub hits_of_name : List ℕ → ℕ → List Entry → List Hit
hits_of_name name o [] = []
hits_of_name name o (e ∷ es) =
    cond (has_name name e) (hit_of_entry (record { entry = e; at = o }) ∷ hits_of_name name (o + entry_size e) es) (hits_of_name name (o + entry_size e) es)

-- those of the name's table that a search for the name makes a hit of
pub hits_of_name_lem : (name : List ℕ) (o : ℕ) (es : List Entry)
    → hits_in (map (probe_of_entry name) (of_table (table_of (hash_of name)) (placed o es))) ≡ hits_of_name name o es
unfolding placed of_table filter hits_of_name
hits_of_name_lem name o [] = refl
hits_of_name_lem name o (e ∷ es) =
    hits_with_first (same e.name name) refl (eqb (table_of (hash_of e.name)) (table_of (hash_of name))) refl (hits_of_name_lem name (o + entry_size e) es)
  where
    p : Placed
    p = record { entry = e; at = o }

    K : List Placed
    K = filter (in_table (table_of (hash_of name))) (placed (o + entry_size e) es)

    T : List Hit
    T = hits_of_name name (o + entry_size e) es

    hits_with_first : (s : Bool) → same e.name name ≡ s → (t : Bool) → eqb (table_of (hash_of e.name)) (table_of (hash_of name)) ≡ t
        → hits_in (map (probe_of_entry name) K) ≡ T → hits_in (map (probe_of_entry name) (cond t (p ∷ K) K)) ≡ cond s (hit_of_entry p ∷ T) T
    hits_with_first true q true r ih = rw q (ap (λ (l : List Hit). hit_of_entry p ∷ l) ih)
    hits_with_first true q false r ih =
        let w : eqb (table_of (hash_of e.name)) (table_of (hash_of name)) ≡ true =
        eq-eqb (table_of (hash_of e.name)) (table_of (hash_of name)) (ap (λ (l : List ℕ). table_of (hash_of l)) (same_true e.name name q)) in
        let z : ◌≡◌ {A = ℕ} 0 1 = cc in
        absurd (omega arith)
    hits_with_first false q true r ih = rw q ih
    hits_with_first false q false r ih = ih

-- the first of them: its id and its place
abbrev pub id_in : Hit → ℕ
id_in t = t.id

abbrev pub offset_in : Hit → ℕ
offset_in t = t.offset

pub first_id_lem : (name : List ℕ) (o : ℕ) (es : List Entry) → Option.map id_in (first_of (hits_of_name name o es)) ≡ first_id (of_name name es)
unfolding hits_of_name filter of_name
first_id_lem name o [] = refl
first_id_lem name o (e ∷ es) = id_with_first (has_name name e) (hits_of_name name (o + entry_size e) es) (first_id_lem name (o + entry_size e) es)
  where
    id_with_first : (s : Bool) (T : List Hit) → Option.map id_in (first_of T) ≡ first_id (of_name name es)
        → Option.map id_in (first_of (cond s (hit_of_entry (record { entry = e; at = o }) ∷ T) T)) ≡ first_id (cond s (e ∷ of_name name es) (of_name name es))
    id_with_first true T ih = refl
    id_with_first false T ih = ih

pub first_at_lem : (name : List ℕ) (o : ℕ) (es : List Entry) → Option.map offset_in (first_of (hits_of_name name o es)) ≡ first_at name o es
unfolding hits_of_name first_at
first_at_lem name o [] = refl
first_at_lem name o (e ∷ es) = offset_with_first (has_name name e) (hits_of_name name (o + entry_size e) es) (first_at_lem name (o + entry_size e) es)
  where
    offset_with_first : (s : Bool) (T : List Hit) → Option.map offset_in (first_of T) ≡ first_at name (o + entry_size e) es
        → Option.map offset_in (first_of (cond s (hit_of_entry (record { entry = e; at = o }) ∷ T) T))
        ≡ cond s (some o) (first_at name (o + entry_size e) es)
    offset_with_first true T ih = refl
    offset_with_first false T ih = ih

-- ---- an entry of the name with this id

abbrev pub some_id : ℕ → List Hit → Bool
some_id id [] = false
some_id id (t ∷ ts) = eqb t.id id || some_id id ts

pub any_match_lem : (id : ℕ) (m : Matches) → any_match id m ≡ some_id id (match_hits m)
any_match_lem id (matched f rest) = ap (λ (b : Bool). eqb f.id id || b) (any_match_lem id rest)
any_match_lem id (ended r) = refl

or-true : (a b : Bool) → b ≡ true → (a || b) ≡ true
or-true true b e = refl
or-true false b e = e

-- an id's last entry is one of the entries of the name that it has
pub named_hit : (id : ℕ) (name : List ℕ) (o : ℕ) (es : List Entry) → last_name (of_id id es) ≡ some name → some_id id (hits_of_name name o es) ≡ true
unfolding hits_of_name of_id filter
named_hit id name o [] h = let z : ◌≡◌ {A = ℕ} 0 1 = cc in absurd (omega arith)
named_hit id name o (e ∷ es) h = by_id (has_id id e) refl (named_hit id name (o + entry_size e) es) h
  where
    T : List Hit
    T = hits_of_name name (o + entry_size e) es

    later : (s : Bool) → some_id id T ≡ true → some_id id (cond s (hit_of_entry (record { entry = e; at = o }) ∷ T) T) ≡ true
    later true i = or-true (eqb e.id id) (some_id id T) i
    later false i = i

    this : has_id id e ≡ true → e.name ≡ name → some_id id (cond (has_name name e) (hit_of_entry (record { entry = e; at = o }) ∷ T) T) ≡ true
    this p q = rw (ap (λ (l : List ℕ). same l name) q ∙ same_self name, p)

    last : (fs : List Entry) → filter (has_id id) es ≡ fs → has_id id e ≡ true → (last_name (filter (has_id id) es) ≡ some name → some_id id T ≡ true)
        → last_name (e ∷ fs) ≡ some name → some_id id (cond (has_name name e) (hit_of_entry (record { entry = e; at = o }) ∷ T) T) ≡ true
    last [] k p rest h = this p cc
    last (f ∷ fs) k p rest h = later (has_name name e) (rest (ap last_name k ∙ h))

    by_id : (b : Bool) → has_id id e ≡ b → (last_name (filter (has_id id) es) ≡ some name → some_id id T ≡ true)
        → last_name (cond b (e ∷ filter (has_id id) es) (filter (has_id id) es)) ≡ some name
        → some_id id (cond (has_name name e) (hit_of_entry (record { entry = e; at = o }) ∷ T) T) ≡ true
    by_id true p rest h = last (filter (has_id id) es) refl p rest h
    by_id false p rest h = later (has_name name e) (rest h)

-- ---- no entry has a name that is longer than each of theirs
pub no_hits : (name : List ℕ) (o : ℕ) (es : List Entry) → All (λ (e : Entry). length e.name < length name) es → hits_of_name name o es ≡ []
unfolding hits_of_name
no_hits name o [] all = refl
no_hits name o (e ∷ es) all =
    rw (same_false e.name name (λ q. let l : length e.name ≡ length name = ap length q in let h = all.0 in omega arith))
    (no_hits name (o + entry_size e) es all.1)

pub names_short : (n : ℕ) (es : List Entry) → entries_size es ≤ n → All (λ (e : Entry). length e.name < n) es
unfolding entries_size
names_short n [] h = tt
names_short n (e ∷ es) h = (omega arith, names_short n es (omega arith))
