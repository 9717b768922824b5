-- What is proved of one to one (`one_to_one_lem` in proofs/Theorem).
use Rattle.std.specs.Prelude.{ℕ, ◌+◌, ◌≤◌, ◌≡◌, ◌↔◌, ◌⊎◌, true, false, List, [], ◌∷◌, ◌++◌, length}
use Rattle.std.proofs.Math.Option.{none, some}
use Rattle.jhash.specs.Outcome.{value, refusal}
use Rattle.jhash.specs.Word.{AllBytes}
use Rattle.image.specs.Bytes.{Each}
use Rattle.image.specs.Image.{Entry, head_size, entries_size}
use Rattle.image.specs.declared.Mode.{Mode}
use Rattle.image.specs.declared.Mode.TheVariants.{Twoway}
use Rattle.reader.specs.Lookup.{lookup}
use Rattle.lookup_laws.specs.Answer.{found_id, name_given, of_name, of_id, first_id, last_name}
use Rattle.writer.specs.declared.Repeats.{Repeats}
use Rattle.lists.specs.Calls.{Call, WordIds}
use Rattle.lists.specs.Demand3.{accepted_puts, image_of}
use Rattle.canonical.specs.Canonical.{canonical, puts_in, mode_in}
use Rattle.one_to_one.specs.OneToOne.{is_id, is_name, asked, kind_of, Failure, first_failure, one_to_one}

-- ---- an image that 02 (ix) says yes to

-- its id gives its name and its name finds its id (in a one-way image: its name finds its id)
pub record Paired (img : List ℕ) (e : Entry) : Type 0 where
  pub finds : found_id (lookup img e.name) ≡ some e.id
  pub gives : mode_in img ≡ Twoway → name_given img e.id ≡ some e.name

-- kind 1: its name finds another id
pub record FindsOther (img : List ℕ) (e : Entry) : Type 0 where
  pub other : ℕ
  pub found : found_id (lookup img e.name) ≡ some other
  pub another : ¬ (other ≡ e.id)

-- kind 2: its id gives another name
pub record GivesOther (img : List ℕ) (e : Entry) : Type 0 where
  pub finds : found_id (lookup img e.name) ≡ some e.id
  pub two_way_lem : mode_in img ≡ Twoway
  pub other : List ℕ
  pub given : name_given img e.id ≡ some other
  pub another : ¬ (other ≡ e.name)

abbrev pub Fails : List ℕ → ℕ → Entry → Type 0
Fails img kind e = ((kind ≡ 1) × FindsOther img e) ⊎ ((kind ≡ 2) × GivesOther img e)

-- the first entry, in put order, for which this fails, of entries that stand one after the other from o on
pub record First (img : List ℕ) (o : ℕ) (es : List Entry) (f : Failure) : Type 0 where
  pub before : List Entry
  pub entry : Entry
  pub after : List Entry
  pub entries : es ≡ before ++ entry ∷ after
  pub offset_is : f.offset ≡ o + entries_size before
  pub paired_before : Each (Paired img) before
  pub fails : Fails img f.kind entry

-- lookup and naming are inverse
abbrev pub Inverse : List ℕ → Type 0
Inverse img = (name : List ℕ) (id : ℕ)
    → (found_id (lookup img name) ≡ some id) ↔ (name_given img id ≡ some name)

-- ---- by the puts alone: a name finds the id of its first put, an id gives the name of its last

abbrev pub kind_among : Mode → List Entry → Entry → ℕ
kind_among mode es e =
    kind_of (is_id (first_id (of_name e.name es)) e.id) (asked mode (is_name (last_name (of_id e.id es)) e.name))

-- no two puts have the same name and different ids
abbrev pub SameId : Entry → Entry → Type 0
SameId e f = e.name ≡ f.name → e.id ≡ f.id

abbrev pub OneId : List Entry → Type 0
OneId es = Each (λ (e : Entry). Each (SameId e) es) es

-- no two puts have the same id and different names
abbrev pub SameName : Entry → Entry → Type 0
SameName e f = e.id ≡ f.id → e.name ≡ f.name

abbrev pub OneName : List Entry → Type 0
OneName es = Each (λ (e : Entry). Each (SameName e) es) es

-- the image img of a list of calls, as in demand 3 or one-way, with either choice of 02 (viii), by its accepted puts es
pub record OneToOneOfList (mode : Mode) (es : List Entry) (img : List ℕ) : Type 0 where
  pub yes_exactly : (one_to_one img ≡ value none) ↔ (OneId es × (mode ≡ Twoway → OneName es))
  -- the whole answer follows from the accepted puts
  pub by_puts_lem : one_to_one img ≡ value (first_failure (kind_among mode es) head_size es)
  pub inverse : mode ≡ Twoway → one_to_one img ≡ value none → Inverse img

pub record OneToOneHolds : Type 0 where
  -- refused with 17 where 02 (ix) says no; an image without entries is one to one
  pub refused : (img : List ℕ) → canonical img ≡ false → one_to_one img ≡ refusal 17
  pub empty : (img : List ℕ) → canonical img ≡ true → puts_in img ≡ [] → one_to_one img ≡ value none
  -- yes exactly when, for every entry, its id gives its name and its name finds its id
  pub yes_exactly : (img : List ℕ) → canonical img ≡ true
      → (one_to_one img ≡ value none) ↔ Each (Paired img) (puts_in img)
  -- otherwise the offset of the first entry that fails, and which of the two fails first
  pub first_exactly : (img : List ℕ) → AllBytes img → canonical img ≡ true → (f : Failure)
      → (one_to_one img ≡ value (some f)) ↔ First img head_size (puts_in img) f
  pub inverse : (img : List ℕ) → AllBytes img → mode_in img ≡ Twoway → one_to_one img ≡ value none
      → Inverse img
  pub of_list : (mode : Mode) (repeats : Repeats) (buffer : List ℕ) (cs : List Call)
      → head_size ≤ length buffer → WordIds mode cs
      → OneToOneOfList mode (accepted_puts mode repeats buffer cs) (image_of mode repeats buffer cs)
