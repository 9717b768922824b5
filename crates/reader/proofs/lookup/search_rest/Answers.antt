-- `reader::lookup::search_rest` meets its contract. The loop's invariant: what is left of the search, from here on, answers what was left at the start.
-- Assumes nothing.
use Rattle.std.proofs.Common.{◌≡◌, ℕ, ◌+◌, ◌-◌, sym, refl, ap, ◌∙◌, arith}
use Rattle.image.specs.Tables.{next}
use Rattle.reader.specs.Lookup.{Lookup, nothing, Probe, pass, ends, hit, decide}
use Rattle.reader.specs.Cases.{probe_of}
use Rattle.reader.specs.Steps.Resume.{search_rest}
use Rattle.reader.proofs.Searches.{rest_over, rest_step}
use Rattle.reader.proofs.lookup.search_rest.Goals.{After-probe_bucket}
use Rattle.reader.proofs.lookup.search_rest.Goals as goal

-- what is left after this bucket, from bucket j on
abbrev left_of : (c : After-probe_bucket) → ℕ → Lookup
left_of c j =
    let a = c.args in
    search_rest a.image.now a.name.now a.h a.at a.n j (a.m - c.loop-i.i - 1)

-- this bucket, after `read` with it
step : (c : After-probe_bucket) (s : Probe) (read : ℕ) → read ≡ c.args.n - (c.args.m - c.loop-i.i - 1) → probe_of c.probe_bucket.result ≡ s
    → decide s read ((left_of c) (next c.args.n c.loop-i.k))
    ≡ (let a = c.args in search_rest a.image.now a.name.now a.h a.at a.n a.first a.m)
step c s read r e =
    let a = c.args in
    ap (λ (i : ℕ). decide s i ((left_of c) (next a.n c.loop-i.k))) r
    ∙ rest_step a.image.now a.name.now a.h a.at a.n c.loop-i.k (a.m - c.loop-i.i) s (omega arith) c.loop-i.invariant.most
    (sym e ∙ c.probe_bucket.ensures)
    ∙ c.loop-i.invariant.same

pub returns-in-Ends : goal.returns-in-Ends
returns-in-Ends c = c.nothing.ensures ∙ step (goal.at.returns-in-Ends c).After-probe_bucket ends _ (omega (arith, c.requires.most)) (ap probe_of c.in-Ends.is)

pub returns-in-Hit : goal.returns-in-Hit
returns-in-Hit c =
    step (goal.at.returns-in-Hit c).After-probe_bucket (hit (record { id = c.in-Hit.hit.id; offset = c.in-Hit.hit.offset })) _
    (omega (arith, c.requires.most)) (ap probe_of c.in-Hit.is)

pub loop-i-preserved : goal.loop-i-preserved
loop-i-preserved c =
    let a = c.args in
    let e : a.m - (c.loop-i.i + 1) ≡ a.m - c.loop-i.i - 1 = omega arith in
    record {
      bucket = c.next-k.ensures.inside;
      most = omega (arith, c.requires.most);
      same = ap (λ (j : ℕ). search_rest a.image.now a.name.now a.h a.at a.n c.next-k.result j) e
          ∙ ap (left_of (goal.at.loop-i-preserved c).After-probe_bucket) c.next-k.ensures.is
          ∙ step (goal.at.loop-i-preserved c).After-probe_bucket pass _ refl (ap probe_of c.in-Pass.is);
    }

pub returns : goal.returns
returns c =
    let a = c.args in
    let e : a.n ≡ a.n - (a.m - c.loop-i.i) = omega arith in
    c.nothing-2.ensures ∙ ap nothing e ∙ rest_over a.image.now a.name.now a.h a.at a.n c.loop-i.k (a.m - c.loop-i.i) (omega arith) ∙ c.loop-i.invariant.same
