-- `build::build_direct` meets its contract. Assumes nothing.
use Prim.Native.Nat.{ℕ, ◌-◌, ◌^◌, ◌≤◌, ◌<◌}
use native.Mathlib.Omega.{arith}
use mathlib.Core.Path.{◌≡◌, refl, sym, ◌∙◌}
use mathlib.Core.Bool.{Bool, true}
use lib.ListN.{length, get_or}
use lib.Seq.{length-take-le}
use denote.Enum.Bare.{sameb}
use Rattle.writer.specs.contracts.Repeats.{the_type}
use Rattle.writer.specs.declared.Repeats.{Repeats}
use Rattle.writer.specs.declared.Repeats.TheVariants.{Off, On}
use Rattle.image.proofs.NameEnds.{begin_later, placed}
use Rattle.serialize.specs.Steps.Meeting.{Distinct}
use Rattle.writer.specs.State.{refuses_repeats}
use Rattle.build.specs.Steps.Stores.{list_entries, NoZeros}
use Rattle.build.proofs.Needed.{sum_small}
use Rattle.build.proofs.WrittenList.{names_short}
use Rattle.build.proofs.ListWhole.{refusals_cleared, names_zero_free, all_built}
use Rattle.build.proofs.build_direct.Goals.{After-any_zero, After-hash_list, Start}
use Rattle.build.proofs.build_direct.Goals as goal

-- ---- what is known at them
words : (c : After-any_zero) (i : ℕ) → i < length c.args.names.ends.now → get_or c.args.ids.now i 0 < 2 ^ 32
words c i h = omega (arith, c.type_inv.ids i)

hashes_long : (c : After-hash_list) → length c.args.names.ends.now ≤ length c.hash_list.new.hashes
hashes_long c = omega (arith, c.hash_list.auto.hashes, c.requires.list.refusals_long)

few : (s : Start) → length s.args.names.ends.now ≤ 4294967295
few s = omega (arith, sum_small s.requires.list.ids_long s.requires.capacity.fits)

-- repeats are refused with repeats off
off_refused : (r : Repeats) {b : Bool} → b ≡ sameb the_type r Off → b ≡ refuses_repeats r
off_refused Off e = e
off_refused On e = e

-- no name has a zero byte
clean : (c : After-hash_list) → NoZeros c.args.names.bytes.now c.args.names.ends.now
clean c =
    let ends = c.args.names.ends.now in
    let some : length ends ≡ 0 → ⊥ = λ z. omega (arith, z, c.requires.capacity.some) in
    names_zero_free c.args.names.bytes.now ends c.args.names.ends_rise _ (sym (begin_later ends (length ends) some))
    (sym c.any_zero.ensures ∙ c.if-any_zero.false)

-- ---- the needs
pub slice_bounds-any_zero-end : goal.slice_bounds-any_zero-end
slice_bounds-any_zero-end c =
    let a = c.args in
    let last = placed (length a.names.bytes.now) a.names.ends.now (length a.names.ends.now - 1) c.args.names.ends_rise (omega (
      arith,
      c.requires.capacity.some,
    )) in
    sym (length-take-le _ a.names.bytes.now last.inside)

pub hash_list-requires : goal.hash_list-requires
hash_list-requires c =
    let a = c.args in
    record {
      hashes_long = c.requires.list.refusals_long;
      number_word = few (goal.at.hash_list-requires c).Start;
      short = names_short a.names.bytes.now a.names.ends.now c.args.names.ends_rise (omega (
        arith,
        sum_small c.requires.list.ids_long
            c.requires.capacity.fits,
      ));
      none = refl;
    }

pub write_list-requires : goal.write_list-requires
write_list-requires c =
    record {
      list = record {
        ids_long = c.requires.list.ids_long;
        refusals_long = hashes_long (goal.at.write_list-requires c).After-hash_list;
        head_fits = c.requires.list.head_fits;
      };
      capacity = c.requires.capacity;
      hashed = c.hash_list.ensures.hashed;
      tallies = c.hash_list.ensures.tallies c.args.ids.now c.requires.list.ids_long;
    }

pub returns-in_err-size : goal.returns-in_err-size
returns-in_err-size c =
    rw c.from_residual.ensures (record { built = tt; behind = c.in_err-size.ensures; rest = λ z. c.hash_list.ensures.rest })

pub returns : goal.returns
returns c =
    let a = c.args in
    let n = length a.names.ends.now in
    let at = goal.at.returns c in
    let done = c.in_ok-size.ensures in
    let apart : refuses_repeats a.repeats ≡ true → Distinct (list_entries a.names.bytes.now a.names.ends.now a.ids.now) = λ off.
    done.distinct (off_refused a.repeats c.eq-stop.ensures ∙ off) in
    let cleared = refusals_cleared n c.hash_list.new.hashes a.refusals.now (hashes_long at.After-hash_list) (c.fill.ensures.after (λ y e. e))
    c.hash_list.ensures.rest in
    record {
      built = all_built a.mode a.repeats a.names.bytes.now c.requires.list c.args.names.ends_rise c.requires.capacity.fits (words at.After-any_zero)
          (clean at.After-hash_list) apart done.sized done.leaves done.behind cleared;
      behind = done.behind;
      rest = λ z. cc;
    }

pub returns-then-any_zero : goal.returns-then-any_zero
returns-then-any_zero c = record { built = tt; behind = refl; rest = λ z. refl }

pub overflow_cast-accepted : goal.overflow_cast-accepted
overflow_cast-accepted c = omega (arith, few (goal.at.overflow_cast-accepted c).Start)
