-- The load: what the call gives and leaves for a seed and a buffer. 02 (xiii).
use Rattle.std.specs.Prelude.{ℕ, zero, suc, true, false, cond, List, length, eqb}
use Rattle.jhash.specs.Outcome.{Outcome, value, refusal}
use Rattle.image.specs.declared.Mode.TheVariants.{Twoway}
use Rattle.writer.specs.declared.Repeats.TheVariants.{On}
use Rattle.writer.specs.State.{State, fresh, begin_refusal}
use Rattle.writer.specs.Put.{put_refusal, after_put}
use Rattle.writer.specs.Close.{after_close}
use Rattle.load.specs.States.{load_entry}

-- the entries from i on are put until n of them are accepted or one is refused
unfoldable pub put_from : ℕ → ℕ → ℕ → State → State
put_from seed zero i s = s
put_from seed (suc n) i s =
    elim (eqb (put_refusal s (load_entry seed i)) 0) [
      | true ↦ put_from seed n (suc i) (after_put s (load_entry seed i))
      | false ↦ s
    ]

-- "the load is put two-way in repeats mode, until 4,096 entries are accepted or one is refused"
unfoldable pub load_put : ℕ → List ℕ → State
load_put seed buffer = put_from seed 4096 0 (fresh Twoway On buffer)

-- "the number of accepted entries is given", which the record has counted; "a buffer too short to begin gives 1"
unfoldable pub loading : ℕ → List ℕ → Outcome ℕ
loading seed buffer =
    cond (eqb (begin_refusal (length buffer)) 0) (value (load_put seed buffer).writer.entries)
    (refusal (begin_refusal (length buffer)))

-- "then closed"; a refusal changes no byte
unfoldable pub after_load : ℕ → List ℕ → List ℕ
after_load seed buffer = cond (eqb (begin_refusal (length buffer)) 0) (after_close (load_put seed buffer)).buffer buffer
