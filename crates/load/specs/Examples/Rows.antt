-- Worked examples of the load: how many entries buffers of some lengths take, whatever the seed, and the first name
-- of seed 0.
use Rattle.std.specs.Prelude.{ℕ, ◌≡◌, List, [], ◌∷◌, length}
use Rattle.jhash.specs.Outcome.{value, refusal}
use Rattle.writer.specs.Close.{closing}
use Rattle.load.specs.States.{state_after, state_name}
use Rattle.load.specs.Load.{load_put, loading}

-- a buffer of `bytes` bytes takes `entries` entries, and the image has `size` bytes
pub record LoadRow : Type 0 where
  pub bytes : ℕ
  pub entries : ℕ
  pub size : ℕ

abbrev pub Takes : LoadRow → Type 0
Takes r =
    (seed : ℕ) (buffer : List ℕ) → length buffer ≡ r.bytes
    → (loading seed buffer ≡ value r.entries) × (closing (load_put seed buffer) ≡ value r.size)

-- P3C6EF35F
abbrev pub first_name : List ℕ
first_name = 80 ∷ 51 ∷ 67 ∷ 54 ∷ 69 ∷ 70 ∷ 51 ∷ 53 ∷ 70 ∷ []

pub record Rows : Type 0 where
  pub first_name_lem : state_name (state_after 0 1) ≡ first_name
  pub full : Takes (record { bytes = 157720; entries = 4096; size = 157720 })
  pub one_short : Takes (record { bytes = 157719; entries = 4095; size = 157682 })
  pub empty : Takes (record { bytes = 2072; entries = 0; size = 2072 })
  pub too_short : (seed : ℕ) (buffer : List ℕ) → length buffer ≡ 2071 → loading seed buffer ≡ refusal 1
