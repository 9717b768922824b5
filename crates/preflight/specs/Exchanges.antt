-- Names that two ids have, two sighted ones now, or one then and a sighted one now; and an id that two images name
-- alike.
use Rattle.std.specs.Prelude.{ℕ, zero, suc, ◌+◌, Bool, true, false, cond, List, [], ◌∷◌}
use Rattle.reader.specs.Naming.{name_given}
use Rattle.reader.specs.IdWalk.{upper_hint}
use Rattle.preflight.specs.Names.{Names, kept, lost, first_other}
use Rattle.preflight.specs.Answers.Place.{Place}
use Rattle.preflight.specs.Answers.Place as place
use Rattle.preflight.specs.Answers.Shared.{Shared}
use Rattle.preflight.specs.Answers.Shared as shared
use Rattle.preflight.specs.Answers.Taken.{Taken}
use Rattle.preflight.specs.Answers.Taken as taken

-- 6: "no two different ids of the round have one name in `new`". The first place of an id whose name another id of the
-- round has, and that one's first place
abbrev pub shared_or : ℕ → Shared → Place → Shared
shared_or n rest (place.At p) = shared.Places n p
shared_or n rest place.Nothing = rest

unfoldable pub first_shared : Names → List ℕ → ℕ → List ℕ → Shared
first_shared new round n [] = shared.Nothing
first_shared new round n (x ∷ xs) = shared_or n (first_shared new round (suc n) xs) (first_other new (new x) x round)

abbrev pub first_shared_in : Names → List ℕ → Shared
first_shared_in new round = first_shared new round 0 round

-- 8: "`old` and `new` name at least one id alike, sighted or not". Of m ids from `id` on
unfoldable pub some_kept : Names → Names → ℕ → ℕ → Bool
some_kept old new id zero = false
some_kept old new id (suc m) = cond (kept old new id) true (some_kept old new (id + 1) m)

-- 10: "no id j, of any number, whose old name is now the name of a sighted i, has lost it". The sighted id that has the
-- old name of an id that lost it
abbrev pub taker_of : Names → Names → List ℕ → ℕ → Place
taker_of old new round id = cond (lost old new id) (first_other new (old id) id round) place.Nothing

abbrev pub taken_or : ℕ → Taken → Place → Taken
taken_or id rest (place.At p) = taken.By id p
taken_or id rest place.Nothing = rest

-- of m ids from `id` on
unfoldable pub first_taken : Names → Names → List ℕ → ℕ → ℕ → Taken
first_taken old new round id zero = taken.Nothing
first_taken old new round id (suc m) =
    taken_or id (first_taken old new round (id + 1) m) (taker_of old new round id)

-- of all ids that the old image may name
abbrev pub some_kept_in : List ℕ → List ℕ → Bool
some_kept_in old new = some_kept (name_given old) (name_given new) 0 (upper_hint old 0)

abbrev pub first_taken_in : List ℕ → List ℕ → List ℕ → Taken
first_taken_in old new round = first_taken (name_given old) (name_given new) round 0 (upper_hint old 0)
