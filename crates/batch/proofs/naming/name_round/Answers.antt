-- `batch::naming::name_round` meets its contract. Assumes nothing.
use Prim.Native.Nat.{◌*◌, ◌/◌}
use native.Mathlib.Omega.{arith}
use mathlib.Core.Path.{refl, ap, ◌∙◌}
use mathlib.Core.Bool.{true, false}
use mathlib.Core.List.{List, ◌++◌}
use Prim.Native.Nat.{ℕ}
use borrow.Author.Tests.{lt-ltb, le-ltb}
use lib.ListN.{length, drop}
use Rattle.batch.proofs.PlaceWords.{refusal_by, names_left, names_stored}
use Rattle.batch.proofs.naming.name_round.Goals as goal

pub returns-then-n-gt-MOST_NAMES : goal.returns-then-n-gt-MOST_NAMES
returns-then-n-gt-MOST_NAMES c =
    let ids = c.args.ids.now in
    let e = refusal_by ids (length c.args.answers.now / 4) true _ (lt-ltb 512 (length ids) c.if-n-gt-MOST_NAMES.true) refl in
    record { answer = e; leaves = names_left c.args.image.now ids c.args.answers.now 14 e (omega arith) }

pub returns-then-answers-n : goal.returns-then-answers-n
returns-then-answers-n c =
    let a = c.args in
    let ids = a.ids.now in
    let places = length a.answers.now / 4 in
    let e = refusal_by ids places false true (le-ltb 512 (length ids) c.if-n-gt-MOST_NAMES.false) (lt-ltb places (length ids) c.if-answers-n.true) in
    record { answer = e; leaves = names_left a.image.now ids a.answers.now 15 e (omega arith) }

pub returns : goal.returns
returns c =
    let a = c.args in
    let ids = a.ids.now in
    let places = length a.answers.now / 4 in
    let e = refusal_by ids places false false (le-ltb 512 (length ids) c.if-n-gt-MOST_NAMES.false) (le-ltb places (length ids) c.if-answers-n.false) in
    record {
      answer = e;
      leaves = ap (λ (l : List ℕ). l ++ drop (4 * length ids) a.answers.now) c.name_all.ensures ∙ names_stored a.image.now ids a.answers.now e;
    }
