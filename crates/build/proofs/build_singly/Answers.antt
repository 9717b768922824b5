-- `build::build_singly` meets its contract. Assumes nothing.
use Prim.Native.Nat.{ℕ, ◌^◌, ◌<◌}
use native.Mathlib.Omega.{arith}
use mathlib.Core.Path.{◌≡◌, refl, sym, ap, ◌∙◌}
use mathlib.Core.List.{◌++◌}
use lib.ListN.{length, get_or, take, drop}
use lib.Seq.{length-take-le}
use Rattle.writer.specs.declared.CQDBWriter.{CQDBWriter}
use Rattle.writer.specs.State.{state_with}
use Rattle.lists.specs.Demand3.{answers_of, after_list}
use Rattle.build.specs.Build.{listed}
use Rattle.build.proofs.ListWhole.{begun_fresh, all_zero, list_closes, list_built}
use Rattle.build.proofs.build_singly.Goals.{After-put_list, After-scratch_for_index-words}
use Rattle.build.proofs.build_singly.Goals as goal

-- ---- what is known at them
slots_long : (c : After-scratch_for_index-words) → let n = c.scratch_for_index-words.result in length (take n c.args.scratch.now) ≡ n
slots_long c = length-take-le c.scratch_for_index-words.result c.args.scratch.now c.scratch_for_index-words.ensures.within

word_ids : (c : After-put_list) → let a = c.args in (i : ℕ) → i < length a.names.ends.now → get_or a.ids.now i 0 < 2 ^ 32
word_ids c i h = omega (arith, c.type_inv.ids i)

-- the list is put
leaves : (c : After-put_list) → let a = c.args in
    state_with c.put_list.new.w c.put_list.new.counts c.put_list.new.buf
    ≡ after_list a.mode a.repeats a.buf.now (listed a.names.bytes.now a.names.ends.now a.ids.now)
leaves c =
    let a = c.args in
    c.put_list.ensures.leaves
    ∙ ap (λ (x : CQDBWriter). after_list x.mode x.repeats a.buf.now (listed a.names.bytes.now a.names.ends.now a.ids.now))
    c.fresh_writer-w.ensures

-- ---- the needs
pub put_list-requires : goal.put_list-requires
put_list-requires c =
    let a = c.args in
    let long = slots_long (goal.at.put_list-requires c).After-scratch_for_index-words in
    record {
      list = c.requires;
      begun = begun_fresh a.mode a.repeats a.buf.now _ _ refl c.fresh_writer-w.ensures;
      cleared = all_zero _ (c.fill.ensures.after (λ y e. e));
      enough = λ some. omega (arith, c.scratch_for_index-words.ensures.enough (omega (arith, some, long, c.fill.ensures.len)), long, c.fill.ensures.len);
    }

pub finish_list-requires : goal.finish_list-requires
finish_list-requires c =
    let put = (goal.at.finish_list-requires c).After-put_list in
    record { closes = list_closes c.args.mode c.args.repeats c.args.names.bytes.now c.requires c.args.names.ends_rise (word_ids put) (leaves put) }

pub returns : goal.returns
returns c =
    let a = c.args in
    let cs = listed a.names.bytes.now a.names.ends.now a.ids.now in
    let put = (goal.at.returns c).After-put_list in
    list_built a.mode a.repeats a.names.bytes.now c.requires c.args.names.ends_rise (word_ids put) (leaves put) c.finish_list.ensures
    (c.put_list.ensures.answers
    ∙ ap (λ (x : CQDBWriter). answers_of x.mode x.repeats a.buf.now cs ++ drop (length a.names.ends.now) a.refusals.now)
    c.fresh_writer-w.ensures)

pub slice_bounds-slots-end : goal.slice_bounds-slots-end
slice_bounds-slots-end c = c.scratch_for_index-words.ensures.within

pub slice_bounds-slots-end-2 : goal.slice_bounds-slots-end-2
slice_bounds-slots-end-2 c = sym (slots_long (goal.at.slice_bounds-slots-end-2 c).After-scratch_for_index-words)
