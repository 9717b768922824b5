-- `consistency::matching::has_match_in` meets its contract. The loop's invariant: what is left of the search matches the id exactly
-- when the whole search does.
-- Assumes nothing.
use Rattle.std.proofs.Common.{◌≡◌, ℕ, ◌+◌, ◌-◌, sym, ap, ◌∙◌, arith}
use Rattle.image.specs.Tables.{next}
use Rattle.reader.specs.Lookup.{Probe, pass, ends, hit}
use Rattle.consistency.specs.Matches.{Matches, add_match, matches_in, any_match}
use Rattle.reader.specs.Cases.{probe_of}
use Rattle.consistency.proofs.MatchSearch.{matches_rest, matches_start, matches_over, matches_step, this_one, another}
use Rattle.consistency.proofs.matching.has_match_in.Goals.{After-probe_bucket, in-Pass, in-Hit+else-hit-id}
use Rattle.consistency.proofs.matching.has_match_in.Goals as goal

-- what is left after this bucket, from bucket j on
abbrev left_of : (c : After-probe_bucket) → ℕ → Matches
left_of c j =
    let a = c.args in
    matches_rest a.image.now a.name.now a.h a.at a.n j (a.n - c.loop.counter - 1)

step : (c : After-probe_bucket) (s : Probe) → probe_of c.probe_bucket.result ≡ s
    → any_match c.args.id (add_match s (c.args.n - (c.args.n - c.loop.counter - 1)) ((left_of c) (next c.args.n c.loop.k)))
    ≡ (let a = c.args in any_match a.id (matches_in a.image.now a.name.now a.h a.at a.n))
step c s e =
    let a = c.args in
    ap (any_match a.id)
    (matches_step a.image.now a.name.now a.h a.at a.n c.loop.k (a.n - c.loop.counter) s (omega arith) c.loop.invariant.most
    (sym e ∙ c.probe_bucket.ensures))
    ∙ c.loop.invariant.same

pub loop-init : goal.loop-init
loop-init c =
    let a = c.args in
    let image = a.image.now in
    let name = a.name.now in
    let whole : a.n - 0 ≡ a.n = omega arith in
    record {
      bucket = c.start-k.ensures.inside;
      most = omega arith;
      same = ap (λ (m : ℕ). any_match a.id (matches_rest image name a.h a.at a.n c.start-k.result m)) whole
          ∙ ap (λ (j : ℕ). any_match a.id (matches_rest image name a.h a.at a.n j a.n)) c.start-k.ensures.is
          ∙ ap (any_match a.id) (matches_start image name a.h a.at a.n);
    }

pub returns-in-Ends : goal.returns-in-Ends
returns-in-Ends c = step (goal.at.returns-in-Ends c).After-probe_bucket ends (ap probe_of c.in-Ends.is)

-- an entry with this id
pub returns-then-hit-id : goal.returns-then-hit-id
returns-then-hit-id c =
    this_one c.in-Hit.hit.id c.args.id (any_match c.args.id (left_of (goal.at.returns-then-hit-id c).After-probe_bucket
    (next c.args.n c.loop.k))) c.if-hit-id.true
    ∙ step (goal.at.returns-then-hit-id c).After-probe_bucket (hit (record { id = c.in-Hit.hit.id; offset = c.in-Hit.hit.offset })) (ap probe_of c.in-Hit.is)

-- the bucket was passed, or its entry has another id
pub loop-preserved : goal.loop-preserved
loop-preserved c =
    let a = c.args in
    let fewer : a.n - (c.loop.counter + 1) ≡ a.n - c.loop.counter - 1 = omega arith in
    record {
      bucket = c.next-k.ensures.inside;
      most = omega arith;
      same = ap (λ (m : ℕ). any_match a.id (matches_rest a.image.now a.name.now a.h a.at a.n c.next-k.result m)) fewer
          ∙ ap (λ (j : ℕ). any_match a.id (left_of (goal.at.loop-preserved c).After-probe_bucket j)) c.next-k.ensures.is
          ∙ elim c.match-probe_bucket.branch [
            | in-Pass w ↦ step (goal.at.loop-preserved c).After-probe_bucket pass (ap probe_of w.in-Pass.is)
            | in-Hit+else-hit-id w ↦
                another w.in-Hit.hit.id c.args.id (any_match c.args.id (left_of (goal.at.loop-preserved c).After-probe_bucket
                (next c.args.n c.loop.k))) w.if-hit-id.false
                ∙ step (goal.at.loop-preserved c).After-probe_bucket (hit (record { id = w.in-Hit.hit.id; offset = w.in-Hit.hit.offset }))
                (ap probe_of w.in-Hit.is)
          ];
    }

pub returns : goal.returns
returns c =
    let a = c.args in
    matches_over a.image.now a.name.now a.h a.at a.n a.id c.loop.k (a.n - c.loop.counter) (omega arith)
    ∙ c.loop.invariant.same
