-- `reader::lookup::to_id` meets its contract. Image and name as parts are the whole of each. Assumes nothing.
use Rattle.std.proofs.Common.{◌≡◌, ℕ, ◌-◌, true, false, Result, List, length, take, refl, ap, ◌∙◌, arith, take_all, le-ltb, lt-ltb, le-leb}
use borrow.Author.Tests.{lt-leb}
use Rattle.jhash.specs.NameHash.{hash_outcome}
use Rattle.jhash.specs.Outcome.{outcome_of}
use Rattle.jhash.specs.declared.refusals.Refusal.{Refusal}
use Rattle.jhash.proofs.Outcomes.{result_name_hash, result_refused}
use Rattle.reader.specs.Lookup.{lookup_hash}
use Rattle.reader.proofs.Searches.{lookup_by_lem}
use Rattle.reader.proofs.lookup.to_id.Goals as goal

whole : (l : List ℕ) → take (length l - 0) l ≡ l
whole l = take_all (length l - 0) l (omega arith)

-- what the hash promises of the part is a promise of the name
of_name : (name : List ℕ) (r : Result ℕ Refusal) → outcome_of r ≡ hash_outcome (take (length name - 0) name) 0 → outcome_of r ≡ hash_outcome name 0
of_name name r h = h ∙ ap (λ (l : List ℕ). hash_outcome l 0) (whole name)

pub returns-then-all-lt-HEAD_SIZE : goal.returns-then-all-lt-HEAD_SIZE
returns-then-all-lt-HEAD_SIZE c =
    let a = c.args in
    let image = a.image.now in
    let name = a.name.now in
    c.nothing.ensures ∙ lookup_by_lem image name true _ (lt-ltb (length image) 2072 c.if-all-lt-HEAD_SIZE.true) refl

pub returns-in-Ok : goal.returns-in-Ok
returns-in-Ok c =
    let a = c.args in
    let image = a.image.now in
    let name = a.name.now in
    let of_hash = c.name_hash in
    let told = result_name_hash name of_hash.result c.in-Ok.h (of_name name of_hash.result of_hash.ensures) c.in-Ok.is in
    c.to_id_hashed.ensures
    ∙ ap (λ (l : List ℕ). lookup_hash l (take (length name - 0) name) c.in-Ok.h) (whole image)
    ∙ ap (λ (l : List ℕ). lookup_hash image l c.in-Ok.h) (whole name)
    ∙ ap (lookup_hash image name) told.1
    ∙ lookup_by_lem image name false false (le-ltb (length image) 2072 c.if-all-lt-HEAD_SIZE.false) (lt-leb 4294967295 (length name) told.0)

pub returns-in-Err : goal.returns-in-Err
returns-in-Err c =
    let a = c.args in
    let image = a.image.now in
    let name = a.name.now in
    let of_hash = c.name_hash in
    c.nothing-in-Err.ensures ∙ lookup_by_lem image name false true (le-ltb (length image) 2072 c.if-all-lt-HEAD_SIZE.false)
    (le-leb 4294967295 (length name)
    (result_refused name 0 of_hash.result c.in-Err.field-0 (of_name name of_hash.result of_hash.ensures) c.in-Err.is))
