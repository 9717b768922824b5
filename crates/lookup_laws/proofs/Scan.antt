-- A search as a list of what is seen in its buckets, one after the other. A list is good when no hit stands behind the first empty bucket;
-- an entry that goes into the first empty bucket, and one that is no hit and goes into any empty one, keep it good. Assumes nothing.
use mathlib.Core.Path.{◌≡◌, refl, ap}
use mathlib.Core.List.{List, [], ◌∷◌, ◌++◌, map}
use mathlib.Core.Option.{Option, none, some}
use Prim.Native.Nat.{ℕ, zero, suc, ◌+◌, ◌≤◌, ◌<◌}
use native.Mathlib.Omega.{arith}
use lib.ListN.{length, get_or, set}
use Rattle.reader.specs.Lookup.{Lookup, found, nothing, Hit, Probe, pass, ends, hit}
use Rattle.consistency.specs.Matches.{Matches, matched, ended, add_match, matches_along, first_match}
use Rattle.reader.specs.Lookup.{Found}
use Rattle.reader.specs.Cases.{reads}

-- ---- the search along a list

unfoldable pub scan : List Probe → ℕ → Matches
scan [] r = ended r
scan (x ∷ w) r = add_match x (r + 1) (scan w (r + 1))

pub matches_scan : (look : ℕ → Probe) (ks : List ℕ) (r : ℕ) → matches_along look ks r ≡ scan (map look ks) r
unfolding matches_along scan
matches_scan look [] r = refl
matches_scan look (k ∷ ks) r = ap (add_match (look k) (r + 1)) (matches_scan look ks (r + 1))

-- the hits before the first empty bucket
abbrev pub hits : List Probe → List Hit
hits [] = []
hits (pass ∷ w) = hits w
hits (ends ∷ w) = []
hits (hit told ∷ w) = told ∷ hits w

-- what the entries tell that a search meets
abbrev hit_as : Found → Hit
hit_as f = record { id = f.id; offset = f.offset }

abbrev pub match_hits : Matches → List Hit
match_hits (matched f rest) = hit_as f ∷ match_hits rest
match_hits (ended r) = []

-- the first of them, and what a search that finds tells of its entry
abbrev pub first_of : List Hit → Option Hit
first_of [] = none
first_of (told ∷ more) = some told

abbrev pub found_hit : Lookup → Option Hit
found_hit (found f) = some (hit_as f)
found_hit (nothing reads) = none

-- the buckets that are not empty
abbrev pub used : List Probe → ℕ
used [] = 0
used (pass ∷ w) = suc (used w)
used (ends ∷ w) = used w
used (hit told ∷ w) = suc (used w)

pub first_hit : (m : Matches) → found_hit (first_match m) ≡ first_of (match_hits m)
first_hit (matched f rest) = refl
first_hit (ended r) = refl

pub scan_hits : (w : List Probe) (r : ℕ) → match_hits (scan w r) ≡ hits w
unfolding scan
scan_hits [] r = refl
scan_hits (pass ∷ w) r = scan_hits w (r + 1)
scan_hits (ends ∷ w) r = refl
scan_hits (hit told ∷ w) r = ap (λ (l : List Hit). told ∷ l) (scan_hits w (r + 1))

pub scan_reads : (w : List Probe) (r : ℕ) → reads (first_match (scan w r)) ≤ r + used w + 1
unfolding scan
scan_reads [] r = omega arith
scan_reads (pass ∷ w) r = omega (arith, scan_reads w (r + 1))
scan_reads (ends ∷ w) r = omega arith
scan_reads (hit told ∷ w) r = omega arith

-- a search that finds has met no empty bucket
pub scan_found : (w : List Probe) (r : ℕ) (f : Found) → first_match (scan w r) ≡ found f → f.buckets ≤ r + used w
unfolding scan
scan_found [] r f e = let z : ◌≡◌ {A = ℕ} 0 1 = cc in omega arith
scan_found (pass ∷ w) r f e = omega (arith, scan_found w (r + 1) f e)
scan_found (ends ∷ w) r f e = let z : ◌≡◌ {A = ℕ} 0 1 = cc in omega arith
scan_found (hit told ∷ w) r f e = omega (arith, ap reads e)

-- ---- good lists

abbrev pub Clear : List Probe → Type 0
Clear [] = Unit {0}
Clear (pass ∷ w) = Clear w
Clear (ends ∷ w) = Clear w
Clear (hit told ∷ w) = ⊥

abbrev pub Good : List Probe → Type 0
Good [] = Unit {0}
Good (pass ∷ w) = Good w
Good (ends ∷ w) = Clear w
Good (hit told ∷ w) = Good w

-- what an entry may be: no empty bucket; and what it adds to the hits
abbrev pub Taken : Probe → Type 0
Taken pass = Unit {0}
Taken ends = ⊥
Taken (hit told) = Unit {0}

abbrev pub hit_of : Probe → List Hit
hit_of pass = []
hit_of ends = []
hit_of (hit told) = told ∷ []

clear_good : (w : List Probe) → Clear w → Good w
clear_good [] c = tt
clear_good (pass ∷ w) c = clear_good w c
clear_good (ends ∷ w) c = c
clear_good (hit told ∷ w) c = absurd c

clear_hits : (w : List Probe) → Clear w → hits w ≡ []
clear_hits [] c = refl
clear_hits (pass ∷ w) c = clear_hits w c
clear_hits (ends ∷ w) c = refl
clear_hits (hit told ∷ w) c = absurd c

-- ---- the place of the first empty bucket

abbrev pub idx : List Probe → ℕ
idx [] = 0
idx (pass ∷ w) = suc (idx w)
idx (ends ∷ w) = 0
idx (hit told ∷ w) = suc (idx w)

pub idx_below : (w : List Probe) → used w < length w → idx w < length w
idx_below [] h = h
idx_below (pass ∷ w) h = let i = idx_below w (omega arith) in omega arith
idx_below (ends ∷ w) h = omega arith
idx_below (hit told ∷ w) h = let i = idx_below w (omega arith) in omega arith

pub idx_empty : (w : List Probe) → idx w < length w → get_or w (idx w) pass ≡ ends
idx_empty [] h = absurd (omega arith)
idx_empty (pass ∷ w) h = idx_empty w (omega arith)
idx_empty (ends ∷ w) h = refl
idx_empty (hit told ∷ w) h = idx_empty w (omega arith)

-- ---- an entry goes into an empty bucket

no_empty : {A : Type 0} (x : Probe) → Taken x → x ≡ ends → A
no_empty pass t e = let z : ◌≡◌ {A = ℕ} 0 1 = cc in absurd (omega arith)
no_empty ends t e = absurd t
no_empty (hit told) t e = let z : ◌≡◌ {A = ℕ} 0 1 = cc in absurd (omega arith)

pub used_set : (w : List Probe) (j : ℕ) (x : Probe) → Taken x → get_or w j pass ≡ ends → used (set w j x) ≡ suc (used w)
used_set [] j x t e = no_empty pass tt e
used_set (pass ∷ w) zero x t e = no_empty pass tt e
used_set (pass ∷ w) (suc j) x t e = ap suc (used_set w j x t e)
used_set (ends ∷ w) zero pass t e = refl
used_set (ends ∷ w) zero ends t e = absurd t
used_set (ends ∷ w) zero (hit told) t e = refl
used_set (ends ∷ w) (suc j) x t e = used_set w j x t e
used_set (hit told ∷ w) zero x t e = no_empty (hit told) tt e
used_set (hit told ∷ w) (suc j) x t e = ap suc (used_set w j x t e)

-- the first empty one
pub own_good : (w : List Probe) (x : Probe) → Taken x → Good w → Good (set w (idx w) x)
own_good [] x t g = tt
own_good (pass ∷ w) x t g = own_good w x t g
own_good (ends ∷ w) pass t g = clear_good w g
own_good (ends ∷ w) ends t g = absurd t
own_good (ends ∷ w) (hit told) t g = clear_good w g
own_good (hit told ∷ w) x t g = own_good w x t g

pub own_hits : (w : List Probe) (x : Probe) → Taken x → Good w → idx w < length w → hits (set w (idx w) x) ≡ hits w ++ hit_of x
own_hits [] x t g h = absurd (omega arith)
own_hits (pass ∷ w) x t g h = own_hits w x t g (omega arith)
own_hits (ends ∷ w) pass t g h = clear_hits w g
own_hits (ends ∷ w) ends t g h = absurd t
own_hits (ends ∷ w) (hit told) t g h = ap (λ (l : List Hit). told ∷ l) (clear_hits w g)
own_hits (hit told ∷ w) x t g h = ap (λ (l : List Hit). told ∷ l) (own_hits w x t g (omega arith))

-- any empty one, for an entry that is no hit
clear_set : (w : List Probe) (j : ℕ) → Clear w → Clear (set w j pass)
clear_set [] j c = tt
clear_set (pass ∷ w) zero c = c
clear_set (pass ∷ w) (suc j) c = clear_set w j c
clear_set (ends ∷ w) zero c = c
clear_set (ends ∷ w) (suc j) c = clear_set w j c
clear_set (hit told ∷ w) j c = absurd c

pub other_good : (w : List Probe) (j : ℕ) → get_or w j pass ≡ ends → Good w → Good (set w j pass)
other_good [] j e g = tt
other_good (pass ∷ w) zero e g = g
other_good (pass ∷ w) (suc j) e g = other_good w j e g
other_good (ends ∷ w) zero e g = clear_good w g
other_good (ends ∷ w) (suc j) e g = clear_set w j g
other_good (hit told ∷ w) zero e g = g
other_good (hit told ∷ w) (suc j) e g = other_good w j e g

pub other_hits : (w : List Probe) (j : ℕ) → get_or w j pass ≡ ends → Good w → hits (set w j pass) ≡ hits w
other_hits [] j e g = refl
other_hits (pass ∷ w) zero e g = refl
other_hits (pass ∷ w) (suc j) e g = other_hits w j e g
other_hits (ends ∷ w) zero e g = clear_hits w g
other_hits (ends ∷ w) (suc j) e g = refl
other_hits (hit told ∷ w) zero e g = no_empty (hit told) tt e
other_hits (hit told ∷ w) (suc j) e g = ap (λ (l : List Hit). told ∷ l) (other_hits w j e g)
