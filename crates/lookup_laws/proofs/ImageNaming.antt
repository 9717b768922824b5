-- Naming an id in a two-way image of entries: the name of the last entry of that id. Assumes nothing.
use mathlib.Core.Path.{◌≡◌, refl, sym, ap, ◌∙◌}
use mathlib.Core.Bool.{Bool, true, false, cond}
use mathlib.Core.List.{List, [], ◌∷◌, map}
use mathlib.Core.Option.{Option, none, some}
use Prim.Native.Nat.{ℕ, ◌+◌, ◌*◌, ◌^◌, ◌≤◌, ◌<◌}
use native.Mathlib.Decide.{dec_lt}
use native.Mathlib.Omega.{arith}
use borrow.Author.Tests.{ne_eqb, le-leb, lt-leb}
use lib.Dec.{eqb}
use lib.ListN.{length}
use Rattle.image.specs.Bytes.{word, filter}
use Rattle.image.specs.Image.{Entry, Placed, head_size, entry_size, placed, last_from, back_word, back_size, back_offset, entries_end, image_size, image}
use Rattle.image.specs.Image.{has_id, placed_of_id}
use Rattle.image.specs.declared.Mode.TheVariants.{Twoway, Oneway}
use Rattle.image.proofs.Sizes.{length_image}
use Rattle.image.specs.Head.{back_size_at}
use Rattle.reader.specs.Naming.{unnamed, no_back, naming_at, naming}
use Rattle.lookup_laws.specs.Answer.{bytes_at, name_given, of_id, last_name}
use Rattle.image.proofs.AllOfList.{All, all_filter}
use Rattle.image.proofs.At.{at_word}
use Rattle.image.proofs.Parts.{placed_in, back_word_at}
use Rattle.lookup_laws.proofs.ImageOpening.{back_size_at_image, back_offset_at_image, long_enough, back_inside}
use Rattle.image.proofs.EntryAt.{EntryAt, entry_fits, all_entries_at}
use Rattle.lookup_laws.proofs.EntryProbe.{named_entry}

-- ---- the entries of an id

pub none_of_id : (id : ℕ) (es : List Entry) → back_size es ≤ id → of_id id es ≡ []
unfolding of_id filter back_size
none_of_id id [] h = refl
none_of_id id (e ∷ es) h = rw (ne_eqb e.id id (λ z. omega arith)) (none_of_id id es (omega arith))

placed_of_id_lem : (id o : ℕ) (es : List Entry) → map (λ (p : Placed). p.entry) (placed_of_id id (placed o es)) ≡ of_id id es
unfolding placed placed_of_id filter of_id
placed_of_id_lem id o [] = refl
placed_of_id_lem id o (e ∷ es) = entries_kept (eqb e.id id) (placed_of_id_lem id (o + entry_size e) es)
  where
    K : List Placed
    K = filter (λ (p : Placed). has_id id p.entry) (placed (o + entry_size e) es)

    N : List Entry
    N = filter (has_id id) es

    entries_kept : (t : Bool) → map (λ (p : Placed). p.entry) K ≡ N
        → map (λ (p : Placed). p.entry) (cond t (record { entry = e; at = o } ∷ K) K) ≡ cond t (e ∷ N) N
    entries_kept true ih = ap (λ (l : List Entry). e ∷ l) ih
    entries_kept false ih = ih

-- the last name, or d without one
last_name_from : Option (List ℕ) → List Entry → Option (List ℕ)
last_name_from d [] = d
last_name_from d (e ∷ es) = last_name_from (some e.name) es

last_name_lem : (d : Option (List ℕ)) (e : Entry) (es : List Entry) → last_name_from d (e ∷ es) ≡ last_name (e ∷ es)
unfolding last_name_from
last_name_lem d e [] = refl
last_name_lem d e (f ∷ es) = last_name_lem (some e.name) f es

last_of_all : (es : List Entry) → last_name_from none es ≡ last_name es
unfolding last_name_from
last_of_all [] = refl
last_of_all (e ∷ es) = last_name_lem none e es

-- ---- the last entry's name is held at its offset

module _ (img : List ℕ) (small : length img ≤ 4294967295) where
  held : ℕ → Option (List ℕ)
  held o = bytes_at img (naming_at img o)

  held_none : held 0 ≡ none
  unfolding held naming_at
  held_none = refl

  held_last : (o : ℕ) (ps : List Placed) → All (EntryAt img) ps → held (last_from o ps) ≡ last_name_from (held o) (map (λ (p : Placed). p.entry) ps)
  unfolding last_from last_name_from held
  held_last o [] all = refl
  held_last o (p ∷ ps) all =
      held_last p.at ps all.1
      ∙ ap (λ (d : Option (List ℕ)). last_name_from d (map (λ (q : Placed). q.entry) ps)) (named_entry p.entry all.0.there small all.0.after)

  last_below : (o : ℕ) (ps : List Placed) → o < 2 ^ 32 → All (EntryAt img) ps → last_from o ps < 2 ^ 32
  unfolding last_from
  last_below o [] h all = h
  last_below o (p ∷ ps) h all = last_below p.at ps (omega (arith, small, entry_fits p.entry all.0.there)) all.1

-- ---- naming

module _ (es : List Entry) (fits : image_size Twoway es ≤ 4294967295) (id : ℕ) where
  img_small : length (image Twoway es) ≤ 4294967295
  img_small = omega (arith, length_image Twoway es)

  of_id_lem : All (EntryAt (image Twoway es)) (placed_of_id id (placed_in es))
  unfolding placed_of_id
  of_id_lem = all_filter (EntryAt (image Twoway es)) (λ (p : Placed). has_id id p.entry) (placed_in es) (all_entries_at Twoway es)

  pub back_word_named : bytes_at (image Twoway es) (naming_at (image Twoway es) (back_word (placed_in es) id)) ≡ last_name (of_id id es)
  unfolding back_word held
  back_word_named =
      held_last (image Twoway es) img_small 0 (placed_of_id id (placed_in es)) of_id_lem
      ∙ ap (λ (d : Option (List ℕ)). last_name_from d (map (λ (p : Placed). p.entry) (placed_of_id id (placed_in es))))
      (held_none (image Twoway es) img_small)
      ∙ ap (last_name_from none) (placed_of_id_lem id head_size es)
      ∙ last_of_all (of_id id es)

  back_word_read : id < back_size es → word (image Twoway es) (entries_end es + 16 * length es + 4 * id) ≡ back_word (placed_in es) id
  unfolding back_word
  back_word_read h =
      at_word (back_word (placed_in es) id) (back_word_at Twoway es fits id h)
      (last_below (image Twoway es) img_small 0 (placed_of_id id (placed_in es)) (omega arith) of_id_lem)

  back_there : 0 < back_size es → back_offset Twoway es ≡ entries_end es + 16 * length es
  unfolding back_offset
  back_there h = rw (ne_eqb (back_size es) 0 (λ z. omega arith))

  -- an id that no entry reaches
  beyond : back_size es ≤ id → name_given (image Twoway es) id ≡ none
  unfolding naming
  beyond h =
      rw (le-leb (back_size_at (image Twoway es)) id (rw (back_size_at_image Twoway es fits) h)) (unnamed_either_way (no_back (image Twoway es)))
    where
      unnamed_either_way : (b : Bool) → bytes_at (image Twoway es) (cond b unnamed unnamed) ≡ none
      unnamed_either_way true = refl
      unnamed_either_way false = refl

  within : id < back_size es → name_given (image Twoway es) id ≡ last_name (of_id id es)
  unfolding naming
  within h =
      rw (
        long_enough Twoway es fits,
        back_inside Twoway es fits,
        back_size_at_image Twoway es fits,
        back_offset_at_image Twoway es fits,
        back_there (omega arith),
        ne_eqb (entries_end es + 16 * length es) 0 (λ z. omega arith),
        lt-leb (back_size es) id h,
        back_word_read h,
      )
      back_word_named

  pub naming_image : name_given (image Twoway es) id ≡ last_name (of_id id es)
  naming_image = by_back_size (dec_lt id (back_size es))
    where
      by_back_size : Dec (id < back_size es) → name_given (image Twoway es) id ≡ last_name (of_id id es)
      by_back_size (yes h) = within h
      by_back_size (no h) =
          let q : back_size es ≤ id = omega arith in
          beyond q ∙ sym (ap last_name (none_of_id id es q))

-- a one-way image names no id
pub naming_oneway : (es : List Entry) → image_size Oneway es ≤ 4294967295 → (id : ℕ) → naming (image Oneway es) id ≡ unnamed
unfolding naming back_offset
naming_oneway es fits id = rw (long_enough Oneway es fits, back_offset_at_image Oneway es fits)
