-- What the reader answers on an image of entries, and on the image of a list of calls in either mode. Assumes nothing.
use Prim.Native.Nat.{ℕ, ◌^◌, ◌≤◌}
use native.Mathlib.Omega.{arith}
use mathlib.Core.Path.{◌≡◌, refl, ap}
use mathlib.Core.Bool.{true}
use mathlib.Core.List.{List}
use mathlib.Core.Option.{some}
use lib.ListN.{length}
use Rattle.image.specs.declared.Mode.{Mode}
use Rattle.image.specs.declared.Mode.TheVariants.{Twoway, Oneway}
use Rattle.image.specs.Image.{Entry, head_size, back_size, image_size, image}
use Rattle.reader.specs.Lookup.{Lookup, found, nothing, lookup}
use Rattle.reader.specs.Lookup.{Found}
use Rattle.consistency.specs.Matches.{matches_of, any_match}
use Rattle.reader.specs.IdWalk.{step_of, step}
use Rattle.consistency.specs.Home.{home_by, home}
use Rattle.lookup_laws.specs.Answer.{found_id, bytes_at, name_given, of_id, last_name, table_puts}
use Rattle.reader.specs.Cases.{reads}
use Rattle.lookup_laws.proofs.ImageLookup.{lookup_long}
use Rattle.lookup_laws.proofs.ImageAnswers.{image_opens, name_gives, name_nothing, name_reads, found_reads, last_matches, ids_fit, id_gives, id_nothing}
use Rattle.lookup_laws.proofs.ImageNaming.{naming_oneway}
use Rattle.lookup_laws.proofs.ImageWalk.{slice_given, step_given_lem, home_given, hint_image}
use Rattle.writer.specs.declared.Repeats.{Repeats}
use Rattle.lists.specs.Calls.{Call, accepted, WordIds}
use Rattle.lists.specs.Demand3.{image_of, NamesAnswered}
use Rattle.lists.specs.Theorems.AfterClose.{ReadingAnswered}
use Rattle.lists.specs.Theorems.OneWay.{IdsUnanswered}
use Rattle.lists.proofs.ImageRead.{named_in, Read}
use Rattle.lists.proofs.CallLists.{list_written}
use Rattle.lists.proofs.OneMoreClose.{list_image, list_below}

-- ---- reads of a lookup that finds

found_most : (l : Lookup) (m id : ℕ) → ((f : Found) → l ≡ found f → f.buckets ≤ m) → found_id l ≡ some id → reads l ≤ m
found_most (found f) m id most h = most f refl
found_most (nothing r) m id most h = absurd (let z : ◌≡◌ {A = ℕ} 0 1 = cc in omega arith)

-- ---- an image of entries, of either mode

module _ (es : List Entry) (ids : back_size es ≤ 2 ^ 32) where
  image_names : (mode : Mode) → image_size mode es ≤ 4294967295 → NamesAnswered es (image mode es)
  image_names mode small =
      record {
        opened = image_opens mode es small;
        name_gives = name_gives mode es small ids;
        name_nothing = name_nothing mode es small ids;
        bounded = name_reads mode es small ids;
        found_bounded = λ name id h. found_most (lookup (image mode es) name) (table_puts name es) id (found_reads mode es small ids name) h;
        long_unread = λ name h. ap reads (lookup_long (image mode es) name h);
      }

  image_ids : (mode : Mode) → image_size mode es ≤ 4294967295 → (id : ℕ) → name_given (image mode es) id ≡ named_in mode es id
  image_ids Twoway small id = id_gives es small id
  image_ids Oneway small id = ap (bytes_at (image Oneway es)) (naming_oneway es small id)

  -- the search for a name that an id has meets an entry with this id
  image_met : (mode : Mode) → image_size mode es ≤ 4294967295 → (id : ℕ) (name : List ℕ) → named_in mode es id ≡ some name
      → any_match id (matches_of (image mode es) name) ≡ true
  image_met Twoway small id name h = last_matches Twoway es small ids name id h
  image_met Oneway small id name h = absurd (let z : ◌≡◌ {A = ℕ} 0 1 = cc in omega arith)

  read_image : (mode : Mode) → image_size mode es ≤ 4294967295 → Read mode es (image mode es)
  read_image mode small =
      record {
        names = image_names mode small;
        id_gives = image_ids mode small;
        id_home = λ id. home_given (image mode es) id (named_in mode es id) (image_ids mode small id) (image_met mode small id);
      }

-- ---- two-way, and one-way

pub two_way_answered : (es : List Entry) → image_size Twoway es ≤ 4294967295 → ReadingAnswered es (image Twoway es)
two_way_answered es small =
    let read = read_image es (ids_fit es small) Twoway small in
    record {
      names = read.names;
      ids = record { id_gives = id_gives es small; id_nothing = id_nothing es small };
      slice_given = λ at id other. slice_given (image Twoway es) id at other (last_name (of_id id es)) (id_gives es small id);
      walked = λ id. step_given_lem (image Twoway es) id (last_name (of_id id es)) (id_gives es small id);
      hinted = hint_image Twoway es small;
      homes = read.id_home;
    }

pub one_way_unanswered : (es : List Entry) → image_size Oneway es ≤ 4294967295 → IdsUnanswered (image Oneway es)
unfolding step home
one_way_unanswered es small =
    record {
      id_unnamed = naming_oneway es small;
      walk_ended = λ id. ap (step_of id) (naming_oneway es small id);
      none_hinted = λ id. omega (arith, hint_image Oneway es small id);
      none_home = λ id. ap (home_by (image Oneway es) id) (naming_oneway es small id);
    }

-- ---- the image of a list of calls

pub list_read : (mode : Mode) (repeats : Repeats) (buffer : List ℕ) → head_size ≤ length buffer → (cs : List Call) → WordIds mode cs
    → Read mode (accepted mode repeats (length buffer) cs) (image_of mode repeats buffer cs)
unfolding image_of
list_read mode repeats buffer room cs word =
    rw (list_image mode repeats buffer room cs word)
    (read_image (accepted mode repeats (length buffer) cs) (list_written mode repeats buffer room cs word).ids mode
    (list_below mode repeats buffer room cs word))
