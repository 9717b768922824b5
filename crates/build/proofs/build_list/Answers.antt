-- `build::build_list` meets its contract, by either way. Assumes nothing.
use Rattle.std.proofs.Common.{◌≡◌, ℕ, ◌^◌, ◌<◌, length, get_or, refl, arith}
use Rattle.build.proofs.ListWhole.{built_after}
use Rattle.build.proofs.build_list.Goals.{After-has_capacity}
use Rattle.build.proofs.build_list.Goals as goal

word_ids : (c : After-has_capacity) → let a = c.args in (i : ℕ) → i < length a.names.ends.now → get_or a.ids.now i 0 < 2 ^ 32
word_ids c i h = omega (arith, c.type_inv.ids i)

-- ---- the needs
pub build_direct-direct-requires : goal.build_direct-direct-requires
build_direct-direct-requires c =
    record { list = c.requires; capacity = c.has_capacity.ensures c.if-not-has_capacity.false }

pub build_singly-requires-2 : goal.build_singly-requires-2
build_singly-requires-2 c =
    let p = c.requires in
    let k = c.build_direct-direct.auto in
    record {
      ids_long = p.ids_long;
      refusals_long = omega (arith, p.refusals_long, k.refusals);
      head_fits = omega (arith, p.head_fits, k.buf);
    }

pub build_singly-requires : goal.build_singly-requires
build_singly-requires c = c.requires

pub returns-then-not-has_capacity : goal.returns-then-not-has_capacity
returns-then-not-has_capacity c = c.build_singly.ensures

pub returns-in-Some : goal.returns-in-Some
returns-in-Some c = c.in-Some.ensures.built

pub returns : goal.returns
returns c =
    let k = c.build_direct-direct.auto in
    let t = c.in_default.ensures in
    built_after c.args.mode c.args.repeats c.args.names.bytes.now c.requires c.args.names.ends_rise (word_ids (goal.at.returns c).After-has_capacity)
    k.buf t.behind k.refusals (t.rest refl) c.build_singly-2.ensures
