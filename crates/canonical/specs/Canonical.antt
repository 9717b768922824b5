-- Is an image canonical, exactly what some puts produce? 02 (ix): the rule, by the lists' own definitions, and the
-- decision.
use Rattle.std.specs.Prelude.{ℕ, ◌^◌, ◌≤◌, ◌<◌, ◌≡◌, Bool, true, false, cond, not, ◌&&◌, List, [], ◌∷◌, length, drop}
use Rattle.std.specs.Prelude.{eqb, leb}
use Rattle.jhash.specs.Outcome.{Outcome, value, refusal}
use Rattle.jhash.specs.Word.{AllBytes}
use Rattle.image.specs.Bytes.{word, same, Each}
use Rattle.image.specs.Image.{Entry, head_size, image_size, image}
use Rattle.image.specs.Stored.{entries_in}
use Rattle.image.specs.Zero.{has_zero}
use Rattle.image.specs.declared.Mode.{Mode}
use Rattle.image.specs.declared.Mode.TheVariants.{Twoway, Oneway}
use Rattle.reader.specs.Open.{opening}
use Rattle.writer.specs.declared.Repeats.TheVariants.{On}
use Rattle.lists.specs.Demand3.{image_of}
use Rattle.lists.specs.Calls.{put_all}

-- a put that a writer can be given and accepts: its name is a string of bytes, none of them zero, its id is a word
pub record ValidPut (e : Entry) : Type 0 where
  pub bytes : AllBytes e.name
  pub free : has_zero e.name ≡ false
  pub id_word : e.id < 2 ^ 32

-- "the bytes are the image that some list of puts, one-way or two-way, repeats allowed, names free of zero bytes,
-- closes to, with no byte after it": some puts, from a fresh record in some buffer, with repeats on (02 (viii)),
-- close to these bytes
pub record Canonical (img : List ℕ) : Type 0 where
  pub mode : Mode
  pub buffer : List ℕ
  pub room : head_size ≤ length buffer
  pub puts : List Entry
  pub each : Each ValidPut puts
  pub closes : image_of mode On buffer (put_all puts) ≡ img

-- ---- the decision reads the puts back, makes their image and compares

-- how many entries opening counts, 0 where it refuses
abbrev pub counted : Outcome ℕ → ℕ
counted (value n) = n
counted (refusal r) = 0

-- the puts that an image holds, in put order: that many entries, from the head's end on
unfoldable pub puts_in : List ℕ → List Entry
puts_in img = entries_in (counted (opening img)) (drop head_size img)

-- the direction that its flag word says
abbrev pub mode_in : List ℕ → Mode
mode_in img = cond (eqb (word img 8) 0) Twoway Oneway

-- has no name a zero byte?
unfoldable pub no_zero_bytes : List Entry → Bool
no_zero_bytes [] = true
no_zero_bytes (e ∷ es) = not (has_zero e.name) && no_zero_bytes es

-- the puts have names without zero bytes, the size of their image is a word, and their image is these bytes
unfoldable pub canonical : List ℕ → Bool
canonical img =
    no_zero_bytes (puts_in img)
    && leb (image_size (mode_in img) (puts_in img)) 4294967295
    && same (image (mode_in img) (puts_in img)) img
