-- The postcondition of `image_size_at`: a step of the walk.
use Rattle.std.specs.Prelude.{ℕ, List}
use Rattle.jhash.specs.Outcome.{Outcome, value, refusal}
use Rattle.jhash.specs.Refusals as refused
use Rattle.bundle.specs.FileWalk.{size_at, file_step}

-- the size of the image that begins at a place; 10 where the walk breaks off there, 11 where the file ends there
abbrev pub image_size : List ℕ → ℕ → Outcome ℕ
image_size file at = file_step file at (refusal refused.no_such_image) (value (size_at file at))
