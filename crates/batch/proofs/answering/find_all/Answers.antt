-- `batch::answering::find_all` meets its contract. The loop's invariant: each of the names has its answer, or its search is open after c buckets; the open
-- ones are listed names and rise, and the places of other names are kept. Assumes nothing.
use Prim.Native.Nat.{ℕ, ◌+◌, ◌-◌, ◌≤◌, ◌<◌}
use native.Mathlib.Omega.{arith}
use mathlib.Core.Path.{◌≡◌, refl, sym, ap, subst}
use mathlib.Core.Logic.{inr}
use mathlib.Core.List.{List}
use lib.ListN.{length, get_or, take, drop, length-take, length-append}
use Rattle.std.proofs.lemmas.List.{length-take-le, take-append-le}
use lib.Seq.{take-length}
use Rattle.batch.specs.Steps.Duplicates.{Listed}
use Rattle.batch.specs.Steps.Probing.{SearchOpen, OpenOrDecided}
use Rattle.batch.proofs.IndexLists.{listed_has}
use Rattle.batch.proofs.AnswerPlaces.{kept_start, kept_step, listed_part}
use Rattle.batch.proofs.Probes.{open_first}
use Rattle.batch.proofs.Passes.{open_or_decided_taken, next_has_answer, last_has_answer}
use Rattle.batch.proofs.answering.find_all.Invariants.{Inv}
use Rattle.batch.proofs.answering.find_all.Goals.{After-pass-open}
use Rattle.batch.proofs.answering.find_all.Goals as goal

pub loop-c-init : goal.loop-c-init
loop-c-init c =
    let r = c.args.round.now in
    let first = c.args.live.now in
    let start : Inv r first c.args.answers.now first c.args.answers.now c.pass_count-passes.result 0 =
    record {
      passed = omega arith;
      few = omega arith;
      rising = c.requires.rising;
      listed = λ z h. record { place = z; inside = h; is = refl };
      is_open = λ z h. open_first r.image.now (get_or r.hashes.now (get_or first z 0) 0);
      right = λ x h. inr (record { place = x; inside = h; is = refl });
      kept = kept_start _ _ _ _;
    } in
    record {
      inside = omega arith;
      searches = subst (λ (l : List ℕ). Inv r first c.args.answers.now l c.args.answers.now c.pass_count-passes.result 0) (sym (take-length first)) start;
    }

pub pass-open-requires : goal.pass-open-requires
pass-open-requires c =
    let v = c.loop-c.invariant.searches in
    let r = c.args.round.now in
    record {
      head = c.pass_count-passes.ensures.head (omega (arith, c.loop-c-test.true));
      small = omega (arith, c.loop-c-test.true, c.pass_count-passes.ensures.few);
      few = omega (arith, v.few, c.requires.few);
      rising = v.rising;
      hashed = λ z h. omega (arith, listed_has (λ (i : ℕ). i < length r.names.ends.now) c.requires.below (v.listed z h), r.hashed.capacity);
      is_open = v.is_open;
    }

-- how many searches are read
read : (c : After-pass-open) → length (take c.loop-c.q c.loop-c.live) ≡ c.loop-c.q
read c = length-take-le c.loop-c.q c.loop-c.live c.loop-c.invariant.inside

-- the searches that stay open, and those that are decided, in lists of their own
parted : (c : After-pass-open) → length c.pass-open.new.done ≡ 512
    → let r = c.args.round.now in let open' = c.pass-open.result in let d = c.loop-c.q - open' in let n = c.pass-open.new in
    OpenOrDecided r.image.now r.hashes.now (take c.loop-c.q c.loop-c.live) (take open' n.live) (take d n.done) (take d n.offsets) (c.loop-c.c + 1)
    (length (take open' n.live)) (length (take d n.done)) (length (take c.loop-c.q c.loop-c.live))
parted c long =
    let size = read c in
    let all = c.pass-open.ensures.count in
    open_or_decided_taken c.pass-open.ensures (ap (λ (n : ℕ). n - c.pass-open.result) size) (omega (arith, c.pass-open.auto))
    (omega (arith, c.loop-c.invariant.searches.few, c.requires.few))

-- the decided searches are of listed names
decided_listed : (c : After-pass-open) → length c.pass-open.new.done ≡ 512
    → let first = c.args.live.now in let done = take (c.loop-c.q - c.pass-open.result) c.pass-open.new.done in
    (z : ℕ) → z < length done → Listed first (length first) (get_or done z 0)
decided_listed c long z h =
    let first = c.args.live.now in
    listed_has (Listed first (length first)) c.loop-c.invariant.searches.listed ((parted c long).decided z h).listed

pub find_decided-requires : goal.find_decided-requires
find_decided-requires c =
    let v = c.loop-c.invariant.searches in
    let here = (goal.at.find_decided-requires c).After-pass-open in
    let long : length c.pass-open.new.done ≡ 512 = omega arith in
    let p = parted here long in
    let d = c.loop-c.q - c.pass-open.result in
    record {
      listed = listed_part c.requires (omega arith) (omega (arith, p.count, v.few)) p.done_rising (decided_listed here long);
      short = c.pass_count-passes.ensures.short (omega (arith, c.loop-c-test.true));
      small = omega (arith, c.loop-c-test.true, c.pass_count-passes.ensures.few);
      capacity = omega (arith, length-take d c.pass-open.new.done, length-take d c.pass-open.new.offsets);
      decided = λ x h. (p.decided x h).decided;
    }

pub loop-c-preserved : goal.loop-c-preserved
loop-c-preserved c =
    let v = c.loop-c.invariant.searches in
    let here = (goal.at.loop-c-preserved c).After-pass-open in
    let long : length c.pass-open.new.done ≡ 512 = omega arith in
    let p = parted here long in
    let found = c.find_decided.ensures in
    let first = c.args.live.now in
    let n = c.pass-open.new.live in
    let rest = drop c.loop-c.q c.loop-c.live in
    let fits : c.pass-open.result ≤ length n = omega (arith, c.pass-open.auto, c.pass-open.ensures.count, read here) in
    record {
      inside = omega (arith, length-append n rest);
      searches =
          subst (λ (l : List ℕ). Inv c.args.round.now first c.args.answers.now l c.find_decided.new.answers c.pass_count-passes.result (c.loop-c.c + 1))
          (sym (take-append-le c.pass-open.result n rest fits))
          (record {
            passed = omega (arith, c.loop-c-test.true);
            few = omega (arith, p.count, v.few);
            rising = p.live_rising;
            listed = λ z h. listed_has (Listed first (length first)) v.listed (p.is_open z h).listed;
            is_open = λ z h. (p.is_open z h).is_open;
            right = λ x h. next_has_answer p found (v.right x h);
            kept = kept_step (decided_listed here long) v.kept found;
          });
    }

pub find_open-requires : goal.find_open-requires
find_open-requires c =
    let v = c.loop-c.invariant.searches in
    let r = c.args.round.now in
    let all : c.loop-c.c ≡ c.pass_count-passes.result = omega arith in
    record {
      listed = listed_part c.requires (omega arith) v.few v.rising v.listed;
      small = omega (arith, v.passed, c.pass_count-passes.ensures.few);
      is_open =
          subst (λ (n : ℕ). (x : ℕ) → x < length (take c.loop-c.q c.loop-c.live) → SearchOpen r.image.now
          (get_or r.hashes.now (get_or (take c.loop-c.q c.loop-c.live) x 0) 0) n) all v.is_open;
    }

pub returns : goal.returns
returns c =
    let v = c.loop-c.invariant.searches in
    let k = kept_step v.listed v.kept c.find_open.ensures in
    record { stays = k.stays; stored = λ x h. last_has_answer c.find_open.ensures (v.right x h); others = k.others }
