-- The examples C1 to C7 and C11 of 01, "Examples from the quay", as rows: a list of calls on a buffer, and what it
-- gives. C6 names the repeats mode (02 (viii)); the others hold with either choice.
use Rattle.std.specs.Prelude.{ℕ, ◌+◌, ◌*◌, ◌≡◌, Bool, true, false, List, [], ◌∷◌, map, length}
use Rattle.std.proofs.Math.Option.{Option, none, some}
use Rattle.jhash.specs.Outcome.{value}
use Rattle.image.specs.declared.Mode.{Mode}
use Rattle.image.specs.declared.Mode.TheVariants.{Twoway, Oneway}
use Rattle.image.specs.Bytes.{word, range}
pub use Rattle.image.specs.Bytes.{Each}
use Rattle.image.specs.Head.{back_size_at, back_offset_at}
use Rattle.reader.specs.Open.{opening}
use Rattle.reader.specs.Lookup.{lookup}
use Rattle.consistency.specs.Home.{home}
use Rattle.lookup_laws.specs.Answer.{found_id, name_given}
use Rattle.writer.specs.declared.Repeats.{Repeats}
use Rattle.writer.specs.declared.Repeats.TheVariants.{Off, On}
use Rattle.writer.specs.Put.{entry_of}
use Rattle.writer.specs.Close.{closing}
use Rattle.lists.specs.Calls.{Call, put}
use Rattle.lists.specs.Demand3.{answers_of, after_list, image_of}

-- what a name gives; what an id gives, and whether it is home
pub record NameGives : Type 0 where
  pub name : List ℕ
  pub gives : Option ℕ

pub record IdGives : Type 0 where
  pub id : ℕ
  pub gives : Option (List ℕ)
  pub is_home : Bool

-- calls on a buffer of `bytes` bytes; the refusal of each, the size that one more close gives, num, the back array's
-- offset and words, and answers
pub record ListRow : Type 0 where
  pub mode : Mode
  pub repeats : Repeats
  pub bytes : ℕ
  pub calls : List Call
  pub refusals : List ℕ
  pub size : ℕ
  pub number : ℕ
  pub back_offset : ℕ
  pub back_words : List ℕ
  pub names : List NameGives
  pub ids : List IdGives

-- the words of an image's back array
abbrev pub back_array : List ℕ → List ℕ
back_array img = map (λ (i : ℕ). word img (back_offset_at img + 4 * i)) (range 0 (back_size_at img))

-- a row holds of an image, and of a buffer
pub record ImageHolds (r : ListRow) (img : List ℕ) : Type 0 where
  pub opened : opening img ≡ value r.number
  pub back_start : back_offset_at img ≡ r.back_offset
  pub back_array_lem : back_array img ≡ r.back_words
  pub named : Each (λ (a : NameGives). found_id (lookup img a.name) ≡ a.gives) r.names
  pub placed : Each (λ (a : IdGives). (name_given img a.id ≡ a.gives) × (home img a.id ≡ a.is_home))
      r.ids

pub record RowHolds (r : ListRow) (buffer : List ℕ) : Type 0 where
  pub answered : answers_of r.mode r.repeats buffer r.calls ≡ r.refusals
  pub closes : closing (after_list r.mode r.repeats buffer r.calls) ≡ value r.size
  pub imaged : ImageHolds r (image_of r.mode r.repeats buffer r.calls)

-- whatever bytes stand in the buffer
abbrev pub HoldsInAny : ListRow → Type 0
HoldsInAny r = (buffer : List ℕ) → length buffer ≡ r.bytes → RowHolds r buffer

-- ---- the rows

abbrev pub A : List ℕ
A = 65 ∷ []

abbrev pub B : List ℕ
B = 66 ∷ []

abbrev pub entered : List ℕ → ℕ → Call
entered name id = put (entry_of name id)

abbrev pub c1 : Repeats → ListRow
c1 repeats =
    record {
      mode = Twoway;
      repeats = repeats;
      bytes = 2072;
      calls = [];
      refusals = [];
      size = 2072;
      number = 0;
      back_offset = 0;
      back_words = [];
      names = record { name = A; gives = none } ∷ [];
      ids = record { id = 0; gives = none; is_home = false } ∷ [];
    }

abbrev pub c2 : Repeats → ListRow
c2 repeats =
    record {
      mode = Twoway;
      repeats = repeats;
      bytes = 2101;
      calls = entered [] 0 ∷ [];
      refusals = 0 ∷ [];
      size = 2101;
      number = 1;
      back_offset = 2097;
      back_words = 2072 ∷ [];
      names = record { name = []; gives = some 0 } ∷ [];
      ids = record { id = 0; gives = some []; is_home = true } ∷ [];
    }

abbrev pub c3 : Repeats → ListRow
c3 repeats =
    record {
      mode = Twoway;
      repeats = repeats;
      bytes = 2100;
      calls = entered [] 0 ∷ [];
      refusals = 3 ∷ [];
      size = 2072;
      number = 0;
      back_offset = 0;
      back_words = [];
      names = record { name = []; gives = none } ∷ [];
      ids = record { id = 0; gives = none; is_home = false } ∷ [];
    }

abbrev pub c4 : Repeats → ListRow
c4 repeats =
    record {
      mode = Twoway;
      repeats = repeats;
      bytes = 2140;
      calls = entered A 0 ∷ entered B 3 ∷ [];
      refusals = 0 ∷ 0 ∷ [];
      size = 2140;
      number = 2;
      back_offset = 2124;
      back_words = 2072 ∷ 0 ∷ 0 ∷ 2082 ∷ [];
      names = record { name = A; gives = some 0 } ∷ record { name = B; gives = some 3 } ∷ [];
      ids =
          record { id = 0; gives = some A; is_home = true }
          ∷ record { id = 1; gives = none; is_home = false }
          ∷ record { id = 3; gives = some B; is_home = true }
          ∷ [];
    }

abbrev pub c5 : Repeats → ListRow
c5 repeats =
    record {
      mode = Oneway;
      repeats = repeats;
      bytes = 2140;
      calls = entered A 0 ∷ entered B 3 ∷ [];
      refusals = 0 ∷ 0 ∷ [];
      size = 2124;
      number = 2;
      back_offset = 0;
      back_words = [];
      names = record { name = A; gives = some 0 } ∷ record { name = B; gives = some 3 } ∷ [];
      ids = record { id = 0; gives = none; is_home = false } ∷ [];
    }

-- In 01, id 9 isn't home. 02 (vi) changed that: "In C6 id 9 is now home too"
abbrev pub c6 : ListRow
c6 =
    record {
      mode = Twoway;
      repeats = On;
      bytes = 3000;
      calls = entered A 5 ∷ entered A 9 ∷ [];
      refusals = 0 ∷ 0 ∷ [];
      size = 2164;
      number = 2;
      back_offset = 2124;
      back_words = 0 ∷ 0 ∷ 0 ∷ 0 ∷ 0 ∷ 2072 ∷ 0 ∷ 0 ∷ 0 ∷ 2082 ∷ [];
      names = record { name = A; gives = some 5 } ∷ [];
      ids = record { id = 5; gives = some A; is_home = true }
          ∷ record { id = 9; gives = some A; is_home = true } ∷ [];
    }

-- C6 without the repeats mode: the second put is refused
abbrev pub c6_off : ListRow
c6_off =
    record {
      mode = Twoway;
      repeats = Off;
      bytes = 3000;
      calls = entered A 5 ∷ entered A 9 ∷ [];
      refusals = 0 ∷ 16 ∷ [];
      size = 2122;
      number = 1;
      back_offset = 2098;
      back_words = 0 ∷ 0 ∷ 0 ∷ 0 ∷ 0 ∷ 2072 ∷ [];
      names = record { name = A; gives = some 5 } ∷ [];
      ids = record { id = 5; gives = some A; is_home = true } ∷ record { id = 9; gives = none; is_home = false } ∷ [];
    }

abbrev pub c7 : Repeats → ListRow
c7 repeats =
    record {
      mode = Twoway;
      repeats = repeats;
      bytes = 3000;
      calls = entered A 0 ∷ entered B 0 ∷ [];
      refusals = 0 ∷ 0 ∷ [];
      size = 2128;
      number = 2;
      back_offset = 2124;
      back_words = 2082 ∷ [];
      names = record { name = A; gives = some 0 } ∷ record { name = B; gives = some 0 } ∷ [];
      ids = record { id = 0; gives = some B; is_home = true } ∷ [];
    }

-- C11, two-way and one-way
abbrev pub c11 : Repeats → ListRow
c11 repeats =
    record {
      mode = Twoway;
      repeats = repeats;
      bytes = 3000;
      calls = entered A 4294967295 ∷ [];
      refusals = 3 ∷ [];
      size = 2072;
      number = 0;
      back_offset = 0;
      back_words = [];
      names = record { name = A; gives = none } ∷ [];
      ids = record { id = 4294967295; gives = none; is_home = false } ∷ [];
    }

abbrev pub c11_one_way : Repeats → ListRow
c11_one_way repeats =
    record {
      mode = Oneway;
      repeats = repeats;
      bytes = 3000;
      calls = entered A 4294967295 ∷ [];
      refusals = 0 ∷ [];
      size = 2098;
      number = 1;
      back_offset = 0;
      back_words = [];
      names = record { name = A; gives = some 4294967295 } ∷ [];
      ids = record { id = 4294967295; gives = none; is_home = false } ∷ [];
    }

-- those that hold with either choice, and those that name it
abbrev pub example_rows : Repeats → List ListRow
example_rows repeats =
    c1 repeats ∷ c2 repeats ∷ c3 repeats ∷ c4 repeats ∷ c5 repeats ∷ c7 repeats ∷ c11 repeats
    ∷ c11_one_way repeats ∷ []

abbrev pub named_rows : List ListRow
named_rows = c6 ∷ c6_off ∷ []
