-- `build::stored::write_list` meets its contract. Assumes nothing.
use Prim.Native.Nat.{ℕ, ◌+◌, ◌*◌, ◌-◌, ◌^◌, ◌≤◌, ◌<◌}
use native.Mathlib.Omega.{arith}
use mathlib.Core.Path.{◌≡◌, refl, sym, ap, ◌∙◌}
use mathlib.Core.List.{List}
use lib.ListN.{length, get_or}
use lib.Seq.{length-take-le}
use Rattle.std.proofs.Common.{Fits, w32}
use Rattle.image.specs.Image.{head_size, back_in, back_size_of, back_offset, image_size}
use Rattle.image.proofs.NameEnds.{begin_later}
use Rattle.serialize.proofs.Cleared.{Numbers, size_is, back_offset_is}
use Rattle.serialize.proofs.WriteSteps.{back_offset_le}
use Rattle.build.specs.Steps.Stores.{list_entries}
use Rattle.build.proofs.Needed.{sum_small}
use Rattle.build.proofs.WrittenList.{small, within, as_many, end_is, back_of_all, numbers, turn_first}
use Rattle.build.proofs.WrittenList.{turn_room, turn_step, turn_last, written}
use Rattle.build.proofs.stored.write_list.Goals.{Start, After-back_in-back, After-back_offset-back_at, After-loop-i}
use Rattle.build.proofs.stored.write_list.Goals as goal

-- ---- what is known at places in the code

-- each id is a word
words : (ends ids : List ℕ) → ((i : ℕ) → Fits w32 (get_or ids i 0)) → (i : ℕ) → i < length ends → get_or ids i 0 < 2 ^ 32
words ends ids fit i h = omega (arith, fit i)

-- the sum of what is stored, but for the back array, is a word
sum : (s : Start) → let ends = s.args.names.ends.now in 2072 + get_or ends (length ends - 1) 0 + 25 * length ends ≤ 4294967295
sum s =
    let ends = s.args.names.ends.now in
    omega
    (arith, sum_small s.requires.list.ids_long s.requires.capacity.fits, begin_later ends (length ends) (λ z. omega (arith, z, s.requires.capacity.some)))

backs : (c : After-back_in-back) → c.back_in-back.result ≡ back_size_of c.args.mode (list_entries c.args.names.bytes.now c.args.names.ends.now c.args.ids.now)
backs c =
    c.back_in-back.ensures ∙ ap (back_in c.args.mode) c.back_of.ensures.is ∙ back_of_all c.requires c.args.names.ends_rise (words c.args.names.ends.now
    c.args.ids.now c.type_inv.ids)

-- the numbers of the image, where its size and the offset of its back array are known
known : (c : After-back_offset-back_at) → let ends = c.args.names.ends.now in
    Numbers c.args.mode (head_size + 9 * length ends + get_or ends (length ends - 1) 0) (length ends) c.back_in-back.result
    c.args.counts.now c.args.buf.now (list_entries c.args.names.bytes.now ends c.args.ids.now)
known c =
    let w = words c.args.names.ends.now c.args.ids.now c.type_inv.ids in
    numbers c.requires c.args.names.ends_rise w (end_is c.requires c.args.names.ends_rise w) (as_many c.requires c.args.names.ends_rise w)
    (c.back_in-back.ensures ∙ ap (back_in c.args.mode) c.back_of.ensures.is ∙ back_of_all c.requires c.args.names.ends_rise w)

sized : (c : After-back_offset-back_at) → c.finished_size-size.result ≡ image_size c.args.mode (list_entries c.args.names.bytes.now c.args.names.ends.now
    c.args.ids.now)
sized c = c.finished_size-size.ensures ∙ size_is c.args.mode _ _ _ c.args.counts.now c.args.buf.now _ (known c)

offset : (c : After-back_offset-back_at) → c.back_offset-back_at.result ≡ back_offset c.args.mode (list_entries c.args.names.bytes.now
    c.args.names.ends.now c.args.ids.now)
offset c = c.back_offset-back_at.ensures ∙ back_offset_is c.args.mode _ _ _ c.args.counts.now c.args.buf.now _ (known c)

offset_word : (c : After-back_offset-back_at) → let ends = c.args.names.ends.now in
    2072 + get_or ends (length ends - 1) 0 + 25 * length ends ≤ 4294967295 → c.back_offset-back_at.result < 4294967296
offset_word c total =
    let n = length c.args.names.ends.now in
    let end = head_size + 9 * n + get_or c.args.names.ends.now (n - 1) 0 in
    omega (arith, c.back_offset-back_at.ensures, back_offset_le c.args.mode end n c.back_in-back.result, total)

pub overflow_cast-entries : goal.overflow_cast-entries
overflow_cast-entries c = omega (arith, sum (goal.at.overflow_cast-entries c).Start)

pub overflow_add-end-2 : goal.overflow_add-end-2
overflow_add-end-2 c = omega (arith, sum (goal.at.overflow_add-end-2 c).Start)

pub overflow_cast-back : goal.overflow_cast-back
overflow_cast-back c =
    omega (
      arith,
      backs (goal.at.overflow_cast-back c).After-back_in-back,
      small c.requires c.args.names.ends_rise (words c.args.names.ends.now
          c.args.ids.now c.type_inv.ids),
    )

pub finished_size-size-requires : goal.finished_size-size-requires
finished_size-size-requires c = omega (arith, sum (goal.at.finished_size-size-requires c).Start)

pub back_offset-back_at-requires : goal.back_offset-back_at-requires
back_offset-back_at-requires c = omega (arith, sum (goal.at.back_offset-back_at-requires c).Start)

pub begin_image-requires : goal.begin_image-requires
begin_image-requires c =
    let k = (goal.at.begin_image-requires c).After-back_offset-back_at in
    let w = words c.args.names.ends.now c.args.ids.now c.type_inv.ids in
    let size = size_is c.args.mode _ _ _ c.args.counts.now c.args.buf.now _ (known k) in
    record {
      low = omega arith;
      fits_buffer = omega (arith, size, within c.requires c.args.names.ends_rise w);
      fits_word = omega (
        arith,
        size,
        small
            c.requires c.args.names.ends_rise w,
      );
    }

pub loop-i-init : goal.loop-i-init
loop-i-init c =
    let w = words c.args.names.ends.now c.args.ids.now c.type_inv.ids in
    turn_first c.requires c.args.names.ends_rise w _ (end_is c.requires c.args.names.ends_rise w) c.begin_image.ensures.begins

pub store-requires : goal.store-requires
store-requires c =
    let w = words c.args.names.ends.now c.args.ids.now c.type_inv.ids in
    let room = turn_room c.requires c.args.names.ends_rise w c.loop-i.invariant c.loop-i-test.true c.name-name.ensures in
    record {
      inside = omega (arith, room, within c.requires c.args.names.ends_rise w, c.loop-i.invariant.long, c.begin_image.auto.buf);
      short = omega (arith, room, small c.requires c.args.names.ends_rise w);
    }

pub overflow_cast-at : goal.overflow_cast-at
overflow_cast-at c =
    let w = words c.args.names.ends.now c.args.ids.now c.type_inv.ids in
    omega (
      arith,
      turn_room c.requires c.args.names.ends_rise w c.loop-i.invariant c.loop-i-test.true c.name-name.ensures,
      small c.requires
          c.args.names.ends_rise w,
    )

pub partition_entry-requires : goal.partition_entry-requires
partition_entry-requires c =
    offset_word (goal.at.partition_entry-requires c).After-back_offset-back_at (sum (goal.at.partition_entry-requires c).Start)

pub overflow_add-at-in-loop-i : goal.overflow_add-at-in-loop-i
overflow_add-at-in-loop-i c =
    let w = words c.args.names.ends.now c.args.ids.now c.type_inv.ids in
    omega (
      arith,
      turn_room c.requires c.args.names.ends_rise w c.loop-i.invariant c.loop-i-test.true c.name-name.ensures,
      small c.requires
          c.args.names.ends_rise w,
    )

pub loop-i-preserved : goal.loop-i-preserved
loop-i-preserved c =
    let k = (goal.at.loop-i-preserved c).After-back_offset-back_at in
    turn_step c.requires c.args.names.ends_rise (words c.args.names.ends.now c.args.ids.now c.type_inv.ids) c.loop-i.invariant c.loop-i-test.true
    c.name-name.ensures c.store.ensures
    (offset k) refl c.partition_entry.ensures (c.partition_entry.auto.buf ∙ c.store.auto.buf ∙ c.loop-i.invariant.long)

-- the buffer is as long as it was, and the image lies in it
inside : (c : After-loop-i) → c.finished_size-size.result ≡ image_size c.args.mode (list_entries c.args.names.bytes.now c.args.names.ends.now c.args.ids.now)
    → c.finished_size-size.result ≤ length c.loop-i.buf
inside c size =
    omega (
      arith,
      size,
      within c.requires c.args.names.ends_rise (words c.args.names.ends.now c.args.ids.now c.type_inv.ids),
      c.loop-i.invariant.long,
      c.begin_image.auto.buf,
    )

pub slice_bounds-image-end : goal.slice_bounds-image-end
slice_bounds-image-end c =
    let at = goal.at.slice_bounds-image-end c in
    inside at.After-loop-i (sized at.After-back_offset-back_at)

pub slice_bounds-image-end-2 : goal.slice_bounds-image-end-2
slice_bounds-image-end-2 c =
    let at = goal.at.slice_bounds-image-end-2 c in
    sym (length-take-le _ c.loop-i.buf (inside at.After-loop-i (sized at.After-back_offset-back_at)))

pub fill_all-met-requires : goal.fill_all-met-requires
fill_all-met-requires c =
    let at = goal.at.fill_all-met-requires c in
    let k = at.After-back_offset-back_at in
    let w = words c.args.names.ends.now c.args.ids.now c.type_inv.ids in
    let size = sized k in
    record {
      low = omega arith;
      within = omega (arith, size, end_is c.requires c.args.names.ends_rise w);
      inside = omega (arith, length-take-le _ c.loop-i.buf (inside at.After-loop-i size));
      size_word = omega (arith, size, small c.requires c.args.names.ends_rise w);
      back_word = offset_word k (sum at.Start);
    }

pub overflow_cast-result : goal.overflow_cast-result
overflow_cast-result c =
    omega (
      arith,
      sized (goal.at.overflow_cast-result c).After-back_offset-back_at,
      small c.requires c.args.names.ends_rise (words c.args.names.ends.now
          c.args.ids.now c.type_inv.ids),
    )

pub returns-then-stop-met : goal.returns-then-stop-met
returns-then-stop-met c =
    let at = goal.at.returns-then-stop-met c in
    let k = at.After-back_offset-back_at in
    let w = words c.args.names.ends.now c.args.ids.now c.type_inv.ids in
    let held = inside at.After-loop-i (sized k) in
    let done =
    turn_last c.requires c.args.names.ends_rise w c.loop-i.invariant (omega (arith, c.loop-i-test.false)) (offset k)
    (end_is c.requires c.args.names.ends_rise w) (as_many c.requires c.args.names.ends_rise w)
    (c.back_in-back.ensures ∙ ap (back_in c.args.mode) c.back_of.ensures.is ∙ back_of_all c.requires c.args.names.ends_rise w) (sized k)
    c.begin_image.ensures.image c.fill_all-met.ensures (c.fill_all-met.auto.buf ∙ length-take-le _ c.loop-i.buf held) in
    done.behind

pub returns : goal.returns
returns c =
    let at = goal.at.returns c in
    let k = at.After-back_offset-back_at in
    let w = words c.args.names.ends.now c.args.ids.now c.type_inv.ids in
    let held = inside at.After-loop-i (sized k) in
    let done =
    turn_last c.requires c.args.names.ends_rise w c.loop-i.invariant (omega (arith, c.loop-i-test.false)) (offset k)
    (end_is c.requires c.args.names.ends_rise w) (as_many c.requires c.args.names.ends_rise w)
    (c.back_in-back.ensures ∙ ap (back_in c.args.mode) c.back_of.ensures.is ∙ back_of_all c.requires c.args.names.ends_rise w) (sized k)
    c.begin_image.ensures.image c.fill_all-met.ensures (c.fill_all-met.auto.buf ∙ length-take-le _ c.loop-i.buf held) in
    written done c.if-stop-met.false
