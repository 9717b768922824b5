-- `batch::probing::pass` meets its contract. The loop's invariant: the searches passed are partitioned, and the others stand where they stood. Assumes
-- nothing.
use Prim.Native.Nat.{ℕ, ◌<◌}
use native.Mathlib.Omega.{arith}
use mathlib.Core.Path.{◌≡◌, sym, subst}
use lib.ListN.{length, get_or, length-set}
use Rattle.batch.specs.Steps.Probing.{SearchOpen}
use Rattle.batch.proofs.Passes.{unread_step, open_or_decided_step, open_or_decided_end}
use Rattle.batch.proofs.probing.pass.Goals.{At-loop-z, In-loop-z}
use Rattle.batch.proofs.probing.pass.Goals as goal

-- the name at z stands where it stood, and has a hash
own : (c : At-loop-z) → get_or c.loop-z.live c.loop-z.z 0 ≡ get_or c.args.live.now c.loop-z.z 0
own c = c.loop-z.invariant.unread c.loop-z.z (omega arith)

hashed : (c : In-loop-z) → get_or c.loop-z.live c.loop-z.z 0 < length c.args.round.now.hashes.now
hashed c = omega (
  arith,
  (let the-own : get_or c.loop-z.live c.loop-z.z 0
      ≡ get_or c.args.live.now c.loop-z.z 0 = c.loop-z.invariant.unread c.loop-z.z (omega arith) in the-own),
  c.requires.hashed c.loop-z.z
      c.loop-z-test.true,
)

pub probe_next-b-requires : goal.probe_next-b-requires
probe_next-b-requires c =
    record {
      small = c.requires.small;
      is_open =
          subst (λ (k : ℕ). SearchOpen c.args.round.now.image.now (get_or c.args.round.now.hashes.now k 0) c.args.c)
          (sym (own (goal.at.probe_next-b-requires c).At-loop-z))
          (c.requires.is_open c.loop-z.z c.loop-z-test.true);
    }

pub loop-z-preserved : goal.loop-z-preserved
loop-z-preserved c =
    let v = c.loop-z.invariant in
    let i = get_or c.loop-z.live c.loop-z.z 0 in
    let more = c.loop-z-test.true in
    let at-z = own (goal.at.loop-z-preserved c).At-loop-z in
    let b = c.probe_next-b.result in
    let room : c.loop-z.p < length c.loop-z.live = omega (arith, v.live_long, c.requires.few, v.open_or_decided.count) in
    record {
      live_long = simp length-set v.live_long;
      done_long = simp length-set v.done_long;
      offsets_long = simp length-set v.offsets_long;
      unread = unread_step v.open_or_decided i b.offset b.stays at-z room v.unread;
      open_or_decided =
          open_or_decided_step v.open_or_decided i b.offset b.stays at-z room c.probe_next-b.ensures c.requires.rising more
          (omega (arith, v.done_long, c.requires.few, v.open_or_decided.count))
          (omega (arith, v.offsets_long, c.requires.few, v.open_or_decided.count));
    }

pub returns : goal.returns
returns c = let v = c.loop-z.invariant in open_or_decided_end v.open_or_decided (omega arith) c.loop-z-test.false
