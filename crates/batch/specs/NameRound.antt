-- The other half of "names a whole round", ids in and names out: an added call. It refuses as 02 (vii) does: over 512
-- ids give 14, then an answer list shorter than the ids gives 15.
use Rattle.std.specs.Prelude.{ℕ, ◌*◌, ◌/◌, ◌%◌, cond, List, [], ◌∷◌, ◌++◌, length, drop, ltb}
use Rattle.image.specs.Bytes.{cat}
use Rattle.reader.specs.Naming.{Naming, place, unnamed, naming}
use Rattle.jhash.specs.Refusals as refused
use Rattle.batch.specs.RoundNames.{most_names}

-- for each id the place of its name or nothing, as single namings give it: 1, the name's length, its start in two
-- words, the low one first; or four zeros
abbrev pub place_words : Naming → List ℕ
place_words (place s n) = 1 ∷ n ∷ s % 4294967296 ∷ s / 4294967296 ∷ []
place_words unnamed = 0 ∷ 0 ∷ 0 ∷ 0 ∷ []

unfoldable pub name_words : List ℕ → List ℕ → List ℕ
name_words image ids = cat (λ (id : ℕ). place_words (naming image id)) ids

-- the refusal's number, 0 where none applies
unfoldable pub name_refusal : List ℕ → ℕ → ℕ
name_refusal ids places =
    cond (ltb most_names (length ids)) refused.round_unfit (cond (ltb places (length ids)) refused.answers_too_few 0)

-- the answer list afterwards
unfoldable pub after_names : List ℕ → List ℕ → List ℕ → List ℕ
after_names image ids answers =
    cond (ltb 0 (name_refusal ids (length answers / 4))) answers (name_words image ids ++ drop (4 * length ids) answers)
