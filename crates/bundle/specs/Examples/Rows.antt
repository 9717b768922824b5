-- Worked examples of 02 (i): files and positions, appends, and what is answered. The images are bytes of which only
-- the size word is not 0, since a walk looks at nothing else.
use Rattle.std.specs.Prelude.{ℕ, ◌-◌, List, [], ◌∷◌, ◌++◌, replicate}
use Rattle.jhash.specs.Outcome.{Outcome, value, refusal}
use Rattle.image.specs.Bytes.{le32}
use Rattle.bundle.specs.FileWalk.{Place}

-- n bytes with the size word w
unfoldable pub sized : ℕ → ℕ → List ℕ
unfolding le32
sized w n = 0 ∷ 0 ∷ 0 ∷ 0 ∷ [] ++ le32 w ++ replicate (n - 8) 0

-- an image of n bytes
unfoldable pub blank : ℕ → List ℕ
unfolding sized
blank n = sized n n

-- a file, a position, and where its image stands
pub record Walk : Type 0 where
  pub file : List ℕ
  pub position : ℕ
  pub answer : Outcome Place

abbrev walk : List ℕ → ℕ → Outcome Place → Walk
walk file k o = record { file = file; position = k; answer = o }

abbrev stands_at : ℕ → ℕ → Outcome Place
stands_at s n = value (record { start = s; size = n })

unfoldable pub walks : List Walk
unfolding sized blank
walks =
    -- an empty file gives 11 at every position
    walk [] 0 (refusal 11)
    ∷ walk [] 7 (refusal 11)
    -- one image, and two: the position after the last
    ∷ walk (blank 2072) 0 (stands_at 0 2072)
    ∷ walk (blank 2072) 1 (refusal 11)
    ∷ walk (blank 2072 ++ blank 2080) 1 (stands_at 2072 2080)
    ∷ walk (blank 2072 ++ blank 2080) 2 (refusal 11)
    -- an image and 7 bytes: position 0 is not concerned, a position at or behind the broken place is
    ∷ walk (blank 2072 ++ replicate 7 0) 0 (stands_at 0 2072)
    ∷ walk (blank 2072 ++ replicate 7 0) 1 (refusal 10)
    ∷ walk (blank 2072 ++ replicate 7 0) 9 (refusal 10)
    -- 8 left-over bytes; a size word one too small, one too large
    ∷ walk (blank 2072 ++ sized 8 8) 1 (refusal 10)
    ∷ walk (sized 2071 2072) 0 (refusal 10)
    ∷ walk (sized 2073 2072) 0 (refusal 10)
    -- a size word that is smaller than the bytes: the next image would begin at the last byte
    ∷ walk (sized 2072 2073) 0 (stands_at 0 2072)
    ∷ walk (sized 2072 2073) 1 (refusal 10)
    ∷ []

-- a file, and how many images it holds
pub record Count : Type 0 where
  pub file : List ℕ
  pub answer : Outcome ℕ

abbrev counts : List ℕ → Outcome ℕ → Count
counts file o = record { file = file; answer = o }

unfoldable pub countings : List Count
unfolding sized blank
countings =
    counts [] (value 0)
    ∷ counts (blank 2072) (value 1)
    ∷ counts (blank 2072 ++ blank 2072 ++ blank 2072) (value 3)
    ∷ counts (blank 2072 ++ replicate 1 0) (refusal 10)
    ∷ counts (blank 2072 ++ sized 2073 2072) (refusal 10)
    ∷ []

-- a buffer, how many of its bytes are the file, a new image, and the joined length
pub record Append : Type 0 where
  pub buffer : List ℕ
  pub size : ℕ
  pub image : List ℕ
  pub answer : Outcome ℕ

abbrev append : List ℕ → ℕ → List ℕ → Outcome ℕ → Append
append buf n image o = record { buffer = buf; size = n; image = image; answer = o }

unfoldable pub appends : List Append
unfolding sized blank
appends =
    -- the first image, into an exact buffer and one that is a byte short
    append (replicate 2072 9) 0 (blank 2072) (value 2072)
    ∷ append (replicate 2071 9) 0 (blank 2072) (refusal 3)
    -- the second; without room, and without room and unfit
    ∷ append (blank 2072 ++ replicate 2080 9) 2072 (blank 2080) (value 4152)
    ∷ append (blank 2072 ++ replicate 2079 9) 2072 (blank 2080) (refusal 3)
    ∷ append (blank 2072 ++ replicate 2079 9) 2072 (sized 2081 2080) (refusal 10)
    -- a new image under 2,072 bytes, or whose size word isn't its length
    ∷ append (replicate 3000 9) 0 (blank 2071) (refusal 10)
    ∷ append (replicate 3000 9) 0 (sized 2072 2073) (refusal 10)
    -- a file number above the buffer's length, and a file that is not whole
    ∷ append (blank 2072) 2073 (blank 2072) (refusal 10)
    ∷ append (blank 2072 ++ replicate 3000 9) 2071 (blank 2072) (refusal 10)
    ∷ append (blank 2072 ++ replicate 3000 9) 2079 (blank 2072) (refusal 10)
    ∷ []
