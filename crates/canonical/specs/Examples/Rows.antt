-- Worked examples of 02 (ix): lists of calls and the puts read back from their images, and bytes without an entry.
use Rattle.std.specs.Prelude.{ℕ, ◌≡◌, Bool, true, false, List, [], ◌∷◌, ◌++◌, length, replicate}
use Rattle.image.specs.Image.{Entry, head_bytes}
use Rattle.image.specs.declared.Mode.{Mode}
use Rattle.image.specs.declared.Mode.TheVariants.{Twoway, Oneway}
use Rattle.writer.specs.declared.Repeats.{Repeats}
use Rattle.writer.specs.declared.Repeats.TheVariants.{Off, On}
use Rattle.writer.specs.Put.{entry_of}
use Rattle.lists.specs.Calls.{Call, put, close}
use Rattle.lists.specs.Demand3.{image_of}
use Rattle.canonical.specs.Canonical.{puts_in, canonical}

-- calls on a buffer of `bytes` bytes, and the puts of the image
pub record CanonicalRow : Type 0 where
  pub mode : Mode
  pub repeats : Repeats
  pub bytes : ℕ
  pub calls : List Call
  pub puts : List Entry

-- in every buffer of that length the image is canonical, and has these puts
abbrev pub Holds : CanonicalRow → Type 0
Holds r =
    (buffer : List ℕ) → length buffer ≡ r.bytes
    → (canonical (image_of r.mode r.repeats buffer r.calls) ≡ true)
    × (puts_in (image_of r.mode r.repeats buffer r.calls) ≡ r.puts)

-- A, B, and a name with a zero byte
abbrev A : ℕ → Entry
A id = entry_of (65 ∷ []) id

abbrev B : ℕ → Entry
B id = entry_of (66 ∷ []) id

abbrev Z : ℕ → Entry
Z id = entry_of (97 ∷ 0 ∷ 98 ∷ []) id

abbrev row : Mode → Repeats → ℕ → List Call → List Entry → CanonicalRow
row mode repeats bytes calls puts = record { mode = mode; repeats = repeats; bytes = bytes; calls = calls; puts = puts }

abbrev pub canonical_rows : List CanonicalRow
canonical_rows =
    -- no put; only a close
    row Twoway Off 2072 [] []
    ∷ row Oneway On 2072 (close ∷ []) []
    -- A renewed, with a refused name and a close between; the same calls with repeats off
    ∷ row Twoway On 3000 (put (A 0) ∷ put (Z 1) ∷ close ∷ put (B 2) ∷ put (A 2) ∷ [])
    (A 0 ∷ B 2 ∷ A 2 ∷ [])
    ∷ row Twoway Off 3000 (put (A 0) ∷ put (Z 1) ∷ close ∷ put (B 2) ∷ put (A 2) ∷ []) (A 0 ∷ B 2 ∷ [])
    -- room for one put: the second is refused, and so is a two-way put, which needs a back array
    ∷ row Oneway On 2098 (put (A 5) ∷ put (B 6) ∷ []) (A 5 ∷ [])
    ∷ row Twoway On 2098 (put (A 0) ∷ []) []
    ∷ []

-- a head by size word, flag word, back size and back offset, and 2,048 zeros; and whether that is canonical
pub record HeadOnly : Type 0 where
  pub bytes : List ℕ
  pub answer : Bool

abbrev head_only : ℕ → ℕ → ℕ → ℕ → Bool → HeadOnly
head_only size flag back back_word_of answer =
    record { bytes = head_bytes size flag back back_word_of ++ replicate 2048 0; answer = answer }

abbrev pub head_only_rows : List HeadOnly
head_only_rows =
    -- the empty one-way image; a back offset without a back array
    head_only 2072 1 0 0 true
    ∷ head_only 2072 0 0 2072 false
    ∷ []
