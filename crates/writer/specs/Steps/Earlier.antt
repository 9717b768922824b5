-- What put makes of the earlier entries, as the code goes. No rule of 02 stands here: proofs/ joins it to specs/Put.
use Rattle.std.specs.Prelude.{ℕ, ◌≤◌, Bool, cond, not, List, length}
use Rattle.jhash.specs.Outcome.{Outcome, value, refusal}
use Rattle.jhash.specs.Refusals as refused
use Rattle.image.specs.Image.{contains_name}
use Rattle.writer.specs.declared.CQDBWriter.{CQDBWriter}
use Rattle.writer.specs.State.{State, refuses_repeats}
use Rattle.writer.specs.Close.{recorded, consistent}

-- the entries end in the buffer
pub record EndInside (w : CQDBWriter) (buf : List ℕ) : Type 0 where
  pub low : 2072 ≤ w.end
  pub high : w.end ≤ length buf

-- what a walk over them gives: refusal 4 where it fails close's checks, otherwise whether it meets the name
unfoldable pub walking : State → List ℕ → Outcome Bool
walking s name = cond (consistent s) (value (contains_name name (recorded s))) (refusal refused.inconsistent)

-- what put makes of that: 16 where the walk meets the name
unfoldable pub walk_refusal : State → List ℕ → ℕ
walk_refusal s name =
    cond (not (consistent s)) refused.inconsistent (cond (contains_name name (recorded s)) refused.repeated 0)

-- with repeats on there is no walk
unfoldable pub earlier_refusal : State → List ℕ → ℕ
unfolding walk_refusal
earlier_refusal s name = cond (refuses_repeats s.writer.repeats) (walk_refusal s name) 0
