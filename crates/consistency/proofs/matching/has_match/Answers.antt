-- `consistency::matching::has_match` meets its contract. Assumes nothing.
use Rattle.std.proofs.Common.{ℕ, true, false, List, length, refl, ap, ◌∙◌, lt-ltb, le-leb}
use borrow.Author.Tests.{lt-leb}
use Rattle.jhash.proofs.Outcomes.{result_name_hash, result_refused}
use Rattle.reader.proofs.Images.{headed}
use Rattle.consistency.specs.Matches.{matches_by_hash, matches_of, any_match}
use Rattle.consistency.proofs.MatchSearch.{matches_by}
use Rattle.consistency.proofs.matching.has_match.Goals as goal

pub returns-in_default : goal.returns-in_default
returns-in_default c =
    let a = c.args in
    matches_by a.image.now a.name.now a.id true _ (lt-ltb (length a.image.now) 2072 c.in_default.ensures) refl

pub returns-in-Ok : goal.returns-in-Ok
returns-in-Ok c =
    let a = c.args in
    let image = c.in-Some.image.bytes.now in
    let name = a.name.now in
    let told = result_name_hash name c.name_hash.result c.in-Ok.h c.name_hash.ensures c.in-Ok.is in
    c.has_match_hashed.ensures
    ∙ ap (λ (h : ℕ). any_match a.id (matches_by_hash image name h)) told.1
    ∙ matches_by image name a.id false false (headed c.in-Some.image) (lt-leb 4294967295 (length name) told.0)
    ∙ ap (λ (l : List ℕ). any_match a.id (matches_of l name)) (λ i. (c.in-Some.ensures i).now)

pub returns-in-Err : goal.returns-in-Err
returns-in-Err c =
    let a = c.args in
    let image = c.in-Some.image.bytes.now in
    let name = a.name.now in
    matches_by image name a.id false true (headed c.in-Some.image)
    (le-leb 4294967295 (length name) (result_refused name 0 c.name_hash.result c.in-Err.field-0 c.name_hash.ensures c.in-Err.is))
    ∙ ap (λ (l : List ℕ). any_match a.id (matches_of l name)) (λ i. (c.in-Some.ensures i).now)
