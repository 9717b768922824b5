-- What a walk over the ids lists, and that it ends for good, on every byte string: 01, "Walking, and the added home
-- check".
use Rattle.std.specs.Prelude.{◌≡◌, ℕ, ◌+◌, ◌-◌, ◌<◌, ◌≤◌, List, ◌++◌, map, replicate, ◌≢◌}
use Rattle.image.specs.Bytes.{range}
use Rattle.image.specs.Head.{back_size_at}
use Rattle.reader.specs.Naming.{unnamed, naming}
use Rattle.reader.specs.IdWalk.{done, step, upper_hint, steps}

-- k is the first id from n on without a name
pub record FirstUnnamed (image : List ℕ) (n k : ℕ) : Type 0 where
  pub from : n ≤ k
  pub without : naming image k ≡ unnamed
  pub each : (i : ℕ) → n ≤ i → i < k → naming image i ≢ unnamed

-- there is one, at the back size or before it
pub record Ends (image : List ℕ) : Type 0 where
  pub at : ℕ
  pub first : FirstUnnamed image 0 at
  pub within : at ≤ back_size_at image

pub record Walks : Type 0 where
  -- the walk from id 0: each id up to the first without a name in turn, with the place of its name, and from then on
  -- the end
  pub walk_lists : (image : List ℕ) (k : ℕ) → FirstUnnamed image 0 k → (r : ℕ)
      → steps image 0 (k + r) ≡ map (step image) (range 0 k) ++ replicate r done
  -- a walk that has ended stays so: every further step is the end again
  pub stays_ended : (image : List ℕ) (n : ℕ) → step image n ≡ done → (m : ℕ)
      → steps image n m ≡ replicate m done
  -- every walk ends
  pub ends : (image : List ℕ) → Ends image
  -- the upper hint is no less than the number of ids that are still to come
  pub hint_holds : (image : List ℕ) (n k : ℕ) → FirstUnnamed image n k → k - n ≤ upper_hint image n
