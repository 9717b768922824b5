-- What an engineer asks next, of every list as in demand 3.
use Rattle.std.specs.Prelude.{ℕ, ◌≤◌, ◌≡◌, ◌↔◌, true, List, [], length}
use Rattle.std.proofs.Math.Option.{some}
use Rattle.image.specs.declared.Mode.TheVariants.{Twoway}
use Rattle.image.specs.Image.{Entry, head_size, image}
use Rattle.reader.specs.Lookup.{lookup}
use Rattle.consistency.specs.Home.{home}
use Rattle.lookup_laws.specs.Answer.{found_id, found_offset, name_given, of_name, of_id, first_id, first_at}
use Rattle.writer.specs.declared.Repeats.{Repeats}
use Rattle.writer.specs.Close.{after_close}
use Rattle.lists.specs.Calls.{Call, puts}
use Rattle.lists.specs.Demand3.{after_list, accepted_puts, image_of}

-- lookup and naming together, in a two-way image, by the accepted puts es
pub record Together (es : List Entry) (img : List ℕ) : Type 0 where
  -- an id's name, looked up, is found, and gives the id of that name's first accepted put
  pub back_and_forth : (id : ℕ) (name : List ℕ) → name_given img id ≡ some name
      → (first : ℕ) × (found_id (lookup img name) ≡ some first) × (first_id (of_name name es) ≡ some first)
  -- where each name was put once and each id once, lookup and naming are inverse
  pub inverse : ((name : List ℕ) → length (of_name name es) ≤ 1) → ((id : ℕ) → length (of_id id es) ≤ 1)
      → (name : List ℕ) (id : ℕ)
      → (found_id (lookup img name) ≡ some id) ↔ (name_given img id ≡ some name)

pub record Corollaries (repeats : Repeats) (buffer : List ℕ) (cs : List Call) : Type 0 where
  pub together : Together (accepted_puts Twoway repeats buffer cs) (image_of Twoway repeats buffer cs)
  -- 02 (ii): a name's lookup gives the offset of the entry of its first accepted put: 2,072 plus the sizes of the
  -- entries before it; nothing without one
  pub name_stands : (name : List ℕ)
      → found_offset (lookup (image_of Twoway repeats buffer cs) name)
      ≡ first_at name head_size (accepted_puts Twoway repeats buffer cs)
  -- 02 (vi): every id that has a name is home
  pub named_home : (id : ℕ) (name : List ℕ) → name_given (image_of Twoway repeats buffer cs) id ≡ some name
      → home (image_of Twoway repeats buffer cs) id ≡ true
  -- a list without puts gives the empty image
  pub empty_image : puts cs ≡ [] → image_of Twoway repeats buffer cs ≡ image Twoway []
  -- closing twice gives the same image, and changes nothing more
  pub closed_twice : after_close (after_close (after_list Twoway repeats buffer cs))
      ≡ after_close (after_list Twoway repeats buffer cs)
