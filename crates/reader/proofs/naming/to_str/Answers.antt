-- `reader::naming::to_str` meets its contract. Assumes nothing.
use Rattle.std.proofs.Common.{◌≡◌, ℕ, ◌+◌, ◌-◌, Bool, true, false, cond, ◌||◌, eqb, sym, refl, ap, ◌∙◌, arith, eq-eqb, ne_eqb, le-leb}
use borrow.Author.Tests.{lt-leb}
use Rattle.image.specs.Bytes.{word}
use Rattle.image.specs.Stored.{broken}
use Rattle.reader.specs.Naming.{place, unnamed, naming}
use Rattle.reader.proofs.Namings.{back_word, naming_by}
use Rattle.reader.proofs.naming.to_str.Goals.{After-word-at}
use Rattle.reader.proofs.naming.to_str.Goals as goal

answer : (c : After-word-at) (z x : Bool) → eqb c.word-at.result 0 ≡ z → broken (c.args.image.now) c.word-at.result ≡ x
    → cond (z || x) unnamed (place (c.word-at.result + 8) (word (c.args.image.now) (c.word-at.result + 4) - 1)) ≡ naming (c.args.image.now) (c.args.id)
answer c z x ez ex =
    let of-no-back = c.no_back in
    let of-word2 = c.word-2 in
    naming_by (c.args.image.now) (c.args.id) c.word-at.result false false z x
    (back_word (c.args.image.now) (c.args.id) of-word2.result c.word-at.result of-word2.ensures c.word-at.ensures)
    (sym of-no-back.ensures ∙ c.if-no_back.false)
    (lt-leb (word (c.args.image.now) 16) (c.args.id) (omega (arith, c.word.ensures)))
    ez ex

pub returns-then-no_back : goal.returns-then-no_back
returns-then-no_back c =
    let a = c.args in
    let image = a.image.now in
    naming_by image a.id _ true _ _ _ refl (sym c.no_back.ensures ∙ c.if-no_back.true) refl refl refl

pub returns-then-word-id : goal.returns-then-word-id
returns-then-word-id c =
    let a = c.args in
    let image = a.image.now in
    let of-no-back = c.no_back in
    naming_by image a.id _ false true _ _ refl (sym of-no-back.ensures ∙ c.if-no_back.false)
    (le-leb (word image 16) a.id (omega (arith, c.word.ensures))) refl refl

pub returns-then-at-eq0 : goal.returns-then-at-eq0
returns-then-at-eq0 c = answer (goal.at.returns-then-at-eq0 c).After-word-at true _ (eq-eqb c.word-at.result 0 c.if-at-eq0.true) refl

pub returns-then-broken : goal.returns-then-broken
returns-then-broken c =
    answer (goal.at.returns-then-broken c).After-word-at false true (ne_eqb c.word-at.result 0 c.if-at-eq0.false) (sym c.broken.ensures ∙ c.if-broken.true)

pub returns : goal.returns
returns c =
    ap (λ (w : ℕ). place (c.word-at.result + 8) (w - 1)) c.word-3.ensures
    ∙ answer (goal.at.returns c).After-word-at false false (ne_eqb c.word-at.result 0 c.if-at-eq0.false) (sym c.broken.ensures ∙ c.if-broken.false)
