-- What reading answers on the image of a list of entries: the theorems for the crates above (demand 3, on entries). Assumes nothing.
use mathlib.Core.Path.{◌≡◌, refl, sym, ap, ◌∙◌}
use mathlib.Core.List.{List, [], ◌∷◌}
use mathlib.Core.Bool.{true}
use mathlib.Core.Option.{map, none, some}
use mathlib.Core.Logic.{◌↔◌}
use Prim.Native.Nat.{ℕ, ◌+◌, ◌^◌, ◌≤◌}
use native.Mathlib.Omega.{arith}
use lib.ListN.{length}
use Rattle.jhash.specs.Outcome.{value}
use Rattle.image.specs.Image.{Entry, head_size, back_size, image_size, image}
use Rattle.image.specs.declared.Mode.{Mode}
use Rattle.image.specs.declared.Mode.TheVariants.{Twoway}
use Rattle.reader.specs.Open.{opening}
use Rattle.reader.specs.Lookup.{Lookup, found, nothing, lookup}
use Rattle.reader.specs.Lookup.{Found}
use Rattle.lookup_laws.specs.Answer.{found_id, found_offset, name_given, of_name, of_id, table_puts, first_id, last_name, first_at}
use Rattle.reader.specs.Cases.{reads}
use Rattle.lookup_laws.proofs.ImageOpening.{opening_image}
use Rattle.consistency.proofs.Homes.{lookup_first}
use Rattle.consistency.specs.Matches.{matches_of, any_match}
use Rattle.lookup_laws.proofs.Scan.{first_of, found_hit, first_hit}
use Rattle.lookup_laws.proofs.EntriesOf.{hits_of_name, id_in, offset_in, first_id_lem, first_at_lem, some_id, any_match_lem, named_hit}
use Rattle.lookup_laws.proofs.ImageLookup.{matches_searched}
use Rattle.lookup_laws.proofs.ImageNaming.{naming_image}

-- ---- nothing is first or last of an empty list alone

pub first_none : (es : List Entry) → (first_id es ≡ none) ↔ (es ≡ [])
first_none [] = (λ e. refl, λ e. refl)
first_none (e ∷ es) =
    (λ q. let z : ◌≡◌ {A = ℕ} 0 1 = cc in absurd (omega arith), λ q. let z : ◌≡◌ {A = ℕ} 0 1 = cc in absurd (omega arith))

pub last_none : (es : List Entry) → (last_name es ≡ none) ↔ (es ≡ [])
last_none [] = (λ e. refl, λ e. refl)
last_none (e ∷ []) =
    (λ q. let z : ◌≡◌ {A = ℕ} 0 1 = cc in absurd (omega arith), λ q. let z : ◌≡◌ {A = ℕ} 0 1 = cc in absurd (omega arith))
last_none (e ∷ f ∷ es) = (
  λ q. let z : f ∷ es ≡ [] = (last_none (f ∷ es)).0 q in let y : ◌≡◌ {A = ℕ} 0 1 = cc in absurd (omega arith),
  λ q. let z : ◌≡◌ {A = ℕ} 0 1 = cc in absurd (omega arith),
)

-- ---- id and offset of what is found

hit_id : (l : Lookup) → found_id l ≡ map id_in (found_hit l)
hit_id (found f) = refl
hit_id (nothing r) = refl

hit_offset : (l : Lookup) → found_offset l ≡ map offset_in (found_hit l)
hit_offset (found f) = refl
hit_offset (nothing r) = refl

-- ---- every image: one-way and two-way

module _ (mode : Mode) (es : List Entry) (fits : image_size mode es ≤ 4294967295) where
  -- it is opened, and num is the number of entries
  pub image_opens : opening (image mode es) ≡ value (length es)
  image_opens = opening_image mode es fits

  -- every id is a word where the back size, the largest id plus 1, is at most 2 ^ 32
  module _ (ids : back_size es ≤ 2 ^ 32) (name : List ℕ) where
    -- what is found is the first entry of the name
    found_first : found_hit (lookup (image mode es) name) ≡ first_of (hits_of_name name head_size es)
    found_first =
        ap found_hit (lookup_first (image mode es) name)
        ∙ first_hit (matches_of (image mode es) name)
        ∙ ap first_of (matches_searched mode es fits ids name).meets

    -- a name gives the id of its first entry, and nothing exactly when none has it
    pub name_gives : found_id (lookup (image mode es) name) ≡ first_id (of_name name es)
    name_gives =
        hit_id (lookup (image mode es) name) ∙ ap (map id_in) found_first ∙ first_id_lem name head_size es

    -- 02 (ii): the found offset is the place of that entry
    pub name_stands : found_offset (lookup (image mode es) name) ≡ first_at name head_size es
    name_stands =
        hit_offset (lookup (image mode es) name) ∙ ap (map offset_in) found_first ∙ first_at_lem name head_size es

    pub name_nothing : (found_id (lookup (image mode es) name) ≡ none) ↔ (of_name name es ≡ [])
    name_nothing =
        (λ q. (first_none (of_name name es)).0 (sym name_gives ∙ q), λ q. name_gives ∙ (first_none (of_name name es)).1 q)

    -- buckets read: at most one more than the entries of the name's table, and no more than those when it is found
    pub name_reads : reads (lookup (image mode es) name) ≤ table_puts name es + 1
    name_reads = rw (lookup_first (image mode es) name) (matches_searched mode es fits ids name).most

    pub found_reads : (f : Found) → lookup (image mode es) name ≡ found f → f.buckets ≤ table_puts name es
    found_reads f e = (matches_searched mode es fits ids name).found_most f (sym (lookup_first (image mode es) name) ∙ e)

    -- 02 (vi): the search for the name that an id's last entry has meets that entry
    pub last_matches : (id : ℕ) → last_name (of_id id es) ≡ some name → any_match id (matches_of (image mode es) name) ≡ true
    last_matches id h =
        any_match_lem id (matches_of (image mode es) name)
        ∙ ap (some_id id) (matches_searched mode es fits ids name).meets
        ∙ named_hit id name head_size es h

-- ---- two-way images: the size bounds the ids

pub ids_fit : (es : List Entry) → image_size Twoway es ≤ 4294967295 → back_size es ≤ 2 ^ 32
ids_fit es fits = omega arith

module _ (es : List Entry) (fits : image_size Twoway es ≤ 4294967295) where
  -- an id gives exactly the name of its last entry, and nothing exactly when none has it
  pub id_gives : (id : ℕ) → name_given (image Twoway es) id ≡ last_name (of_id id es)
  id_gives = naming_image es fits

  pub id_nothing : (id : ℕ) → (name_given (image Twoway es) id ≡ none) ↔ (of_id id es ≡ [])
  id_nothing id =
      (λ q. (last_none (of_id id es)).0 (sym (id_gives id) ∙ q), λ q. id_gives id ∙ (last_none (of_id id es)).1 q)
