-- What holds of canonical images, on every byte string, and of lists of calls of every length: 02 (ix).
use Rattle.std.specs.Prelude.{ℕ, ◌≤◌, ◌<◌, ◌≡◌, ◌↔◌, true, false, List, [], ◌++◌, length, take}
use Rattle.std.proofs.Math.Option.{some}
use Rattle.jhash.specs.Word.{AllBytes}
use Rattle.jhash.specs.Outcome.{value}
use Rattle.image.specs.Bytes.{Each}
use Rattle.image.specs.Image.{Entry, head_size}
use Rattle.image.specs.declared.Mode.{Mode}
use Rattle.reader.specs.Open.{opening}
use Rattle.reader.specs.Lookup.{lookup}
use Rattle.consistency.specs.Panel.{readings_agree}
use Rattle.consistency.specs.Home.{home}
use Rattle.lookup_laws.specs.Answer.{found_id, name_given}
use Rattle.writer.specs.declared.Repeats.{Repeats}
use Rattle.writer.specs.declared.Repeats.TheVariants.{On}
use Rattle.lists.specs.Calls.{Call, WordIds, put_all}
use Rattle.lists.specs.Demand3.{accepted_puts, image_of}
use Rattle.canonical.specs.Canonical.{Canonical, puts_in, mode_in, canonical}

-- ---- a canonical image

pub record CanonicalImage (img : List ℕ) : Type 0 where
  -- it opens, and num is the number of its puts
  pub opens : opening img ≡ value (length (puts_in img))
  -- both readings of its names agree, 02 (v)
  pub agrees : readings_agree img ≡ true
  -- every id that has a name is home, 02 (vi)
  pub homes : (id : ℕ) (name : List ℕ) → name_given img id ≡ some name → home img id ≡ true
  -- each entry's name is found
  pub found : Each (λ (e : Entry). (id : ℕ) × (found_id (lookup img e.name) ≡ some id)) (puts_in img)
  -- its puts are the list that makes it: in every buffer that has room for it all are accepted, and they close to it
  pub made : (buffer : List ℕ) → length img ≤ length buffer
      → (accepted_puts (mode_in img) On buffer (put_all (puts_in img)) ≡ puts_in img)
      × (image_of (mode_in img) On buffer (put_all (puts_in img)) ≡ img)
  -- with one byte or more after it, or with its last bytes missing, it is not canonical
  pub alone : (more : List ℕ) → AllBytes (img ++ more) → (more ≡ [] → ⊥)
      → canonical (img ++ more) ≡ false
  pub cut : (k : ℕ) → k < length img → canonical (take k img) ≡ false

-- ---- the image of a list of calls, which may hold refused puts and closes, with either choice of 02 (viii)

pub record CanonicalOfList (mode : Mode) (repeats : Repeats) (buffer : List ℕ) (cs : List Call) : Type 0 where
  pub is_canonical : canonical (image_of mode repeats buffer cs) ≡ true
  -- the puts that are read back from it are the accepted ones, in their order
  pub read_back : puts_in (image_of mode repeats buffer cs) ≡ accepted_puts mode repeats buffer cs
  pub mode_back : mode_in (image_of mode repeats buffer cs) ≡ mode

pub record CanonicalHolds : Type 0 where
  -- a yes exactly when the bytes are the image of some list of puts
  pub exactly : (img : List ℕ) → AllBytes img → (canonical img ≡ true) ↔ Canonical img
  pub holds : (img : List ℕ) → AllBytes img → canonical img ≡ true → CanonicalImage img
  pub of_list : (mode : Mode) (repeats : Repeats) (buffer : List ℕ) (cs : List Call)
      → head_size ≤ length buffer → WordIds mode cs
      → CanonicalOfList mode repeats buffer cs
  -- two different lists of accepted puts in a given direction never close to the same image, whatever their buffers and
  -- their choices of 02 (viii)
  pub different : (mode : Mode) (repeats₁ : Repeats) (buffer₁ : List ℕ) (cs₁ : List Call)
      (repeats₂ : Repeats) (buffer₂ : List ℕ) (cs₂ : List Call)
      → head_size ≤ length buffer₁ → head_size ≤ length buffer₂ → WordIds mode cs₁ → WordIds mode cs₂
      → (accepted_puts mode repeats₁ buffer₁ cs₁ ≡ accepted_puts mode repeats₂ buffer₂ cs₂ → ⊥)
      → image_of mode repeats₁ buffer₁ cs₁ ≡ image_of mode repeats₂ buffer₂ cs₂ → ⊥
