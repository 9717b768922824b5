-- `batch::answer_all` meets its contract. Assumes nothing.
use Prim.Native.Nat.{ℕ}
use native.Mathlib.Omega.{arith}
use mathlib.Core.Path.{◌≡◌, sym, subst, ◌∙◌}
use lib.ListN.{length, take, replicate, length-replicate}
use Rattle.std.proofs.lemmas.List.{length-take-le}
use Rattle.image.proofs.NameEnds.{length_names}
use Rattle.batch.specs.RoundNames.{names}
use Rattle.batch.specs.Steps.HashedNames.{HashedNames}
use Rattle.batch.specs.Steps.Duplicates.{Deduplicated}
use Rattle.batch.specs.Steps.Answers.{EqualsPre}
use Rattle.batch.proofs.Duplicates.{deduplicated_taken}
use Rattle.batch.proofs.RoundAnswers.{all_words, unique_answered}
use Rattle.batch.proofs.answer_all.Goals.{After-deduplicate-m, After-find_all, After-hash_names}
use Rattle.batch.proofs.answer_all.Goals as goal

hashed_names : (c : After-hash_names) → HashedNames c.args.packed.bytes.now c.args.packed.ends.now c.hash_names.new.hashes
hashed_names c =
    record {
      few = c.requires.few;
      capacity = omega (arith, c.hash_names.array_long, c.requires.few);
      hashed = c.hash_names.ensures;
    }

-- a number for each name
size : (c : After-deduplicate-m) → length c.deduplicate-m.new.equals ≡ length c.args.packed.ends.now
size c = omega (arith, c.deduplicate-m.auto, length-take-le (length c.args.packed.ends.now) (replicate {A = ℕ} 512 0) (simp length-replicate c.requires.few))

-- the unique names are listed in a list of their own
deduplicated : (c : After-deduplicate-m) → let unique = take c.deduplicate-m.result c.deduplicate-m.new.unique in
    Deduplicated (names c.args.packed.bytes.now c.args.packed.ends.now) c.deduplicate-m.new.equals unique (length c.deduplicate-m.new.equals)
    (length unique)
deduplicated c =
    let d = c.deduplicate-m in
    let unique = take d.result d.new.unique in
    subst (λ (n : ℕ). Deduplicated (names c.args.packed.bytes.now c.args.packed.ends.now) d.new.equals unique n (length unique)) (sym d.auto.equals)
    (deduplicated_taken d.ensures)

equal_names : (c : After-find_all) → length c.deduplicate-m.new.equals ≡ length c.args.packed.ends.now
    → EqualsPre c.deduplicate-m.new.equals c.find_all.new.answers
equal_names c n =
    let d = c.deduplicate-m in
    record {
      few = omega (arith, c.requires.few);
      places = omega (arith, c.find_all.auto, c.requires.places);
      earlier = λ i h. (d.ensures.equal i (omega (arith, d.auto))).below;
    }

pub find_all-requires : goal.find_all-requires
find_all-requires c =
    let here = (goal.at.find_all-requires c).After-deduplicate-m in
    let unique = deduplicated here in
    let n = size here in
    record {
      first = λ x k. (unique.equal _ (unique.below x k)).none (unique.only_unique x k);
      rising = unique.rising;
      places = omega (arith, c.requires.places);
      few = omega (arith, unique.count, c.requires.few);
      below = λ x k. omega (arith, unique.below x k);
    }

pub sum_buckets-sum-requires : goal.sum_buckets-sum-requires
sum_buckets-sum-requires c =
    let at = goal.at.sum_buckets-sum-requires c in
    equal_names at.After-find_all (size at.After-deduplicate-m)

pub copy_duplicates-requires : goal.copy_duplicates-requires
copy_duplicates-requires c =
    let at = goal.at.copy_duplicates-requires c in
    equal_names at.After-find_all (size at.After-deduplicate-m)

pub returns-then-m-n : goal.returns-then-m-n
returns-then-m-n c =
    let image = c.args.image.now in
    let xs = names c.args.packed.bytes.now c.args.packed.ends.now in
    let here = (goal.at.returns-then-m-n c).After-deduplicate-m in
    let n = size here in
    let whole : length xs ≡ length c.deduplicate-m.new.equals = length_names c.args.packed.bytes.now c.args.packed.ends.now ∙ sym n in
    let u = unique_answered whole (deduplicated here) c.find_all.ensures.stored in
    record {
      count = c.sum_buckets-sum.ensures image xs u;
      stored = all_words image xs _ whole (omega (arith, c.copy_duplicates.auto, c.find_all.auto, c.requires.places)) (c.copy_duplicates.ensures image xs u);
    }

pub returns-else-m-n : goal.returns-else-m-n
returns-else-m-n c =
    let image = c.args.image.now in
    let d = c.deduplicate-m in
    let xs = names c.args.packed.bytes.now c.args.packed.ends.now in
    let here = (goal.at.returns-else-m-n c).After-deduplicate-m in
    let n = size here in
    let whole : length xs ≡ length c.deduplicate-m.new.equals = length_names c.args.packed.bytes.now c.args.packed.ends.now ∙ sym n in
    let unique = deduplicated here in
    let u = unique_answered whole unique c.find_all.ensures.stored in
    record {
      count = c.sum_buckets-sum.ensures image xs u;
      stored = all_words image xs _ whole (omega (arith, c.find_all.auto, c.requires.places))
          (λ i h. u.have_answers i h (unique.all_unique (omega (arith, c.if-m-n.false, length-take-le d.result d.new.unique d.ensures.capacity)) i h));
    }
