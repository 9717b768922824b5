-- A record and a buffer that close would accept are written: the entries that the bytes hold stand there, one after the other. Assumes nothing.
use Prim.Native.Nat.{ℕ, ◌+◌, ◌-◌, ◌^◌, ◌≤◌, ◌<◌}
use native.Mathlib.Omega.{arith}
use mathlib.Core.Path.{◌≡◌, refl, sym, ap, ◌∙◌}
use mathlib.Core.Bool.{Bool, true, ◌&&◌}
use mathlib.Core.List.{List, [], ◌∷◌, append-nil}
use lib.ListN.{length, get_or, take, drop}
use lib.Dec.{eqb}
use borrow.Author.Tests.{eqb-true}
use Rattle.image.specs.Bytes.{cat}
use Rattle.image.specs.Image.{Entry, head_size, entry_bytes, entries_size, placed, count, back_size, back_in}
use Rattle.image.specs.Stored.{whole}
use Rattle.image.proofs.AllOfRange.{all_each}
use Rattle.image.proofs.At.{At}
use Rattle.image.proofs.EntryArea.{AllBytes, bytes_take, bytes_drop, ids_words, length-entries_in}
use Rattle.image.proofs.Between.{drop-take}
use Rattle.image.proofs.Bools.{and_first, and_second}
use Rattle.image.proofs.AllOfList.{All}
use Rattle.image.proofs.Sizes.{back_in_twice}
use Rattle.serialize.proofs.WrittenImage.{area_kept, stored_end}
use Rattle.writer.specs.State.{State, finished_size}
use Rattle.writer.specs.Close.{entry_area, recorded, close_refusal}
use Rattle.writer.specs.State.{counts_agree}
use Rattle.writer.proofs.Closes.{Accepted, accepted}
use Rattle.writer.proofs.Fits.{Fitting, fitting, not_too_large}
use Rattle.lists.proofs.ListWritten.{Written}

backs_words : (es : List Entry) → All (λ (e : Entry). e.id < 2 ^ 32) es → back_size es ≤ 2 ^ 32
unfolding back_size
backs_words [] all = omega arith
backs_words (e ∷ es) all = omega (arith, all.0, backs_words es all.1)

module _ (s : State) (bytes : AllBytes s.buffer) (closes : close_refusal s ≡ 0) where
  a : Accepted s
  a = accepted s closes

  f : Fitting s.writer s.counts s.buffer
  f = fitting s.writer s.counts s.buffer a.fit

  -- the tests of a consistent record, each of them true
  abbrev counted : Bool
  counted = whole s.writer.entries (entry_area s) && counts_agree s.counts (recorded s)

  abbrev backed : Bool
  backed = eqb s.writer.back (back_in s.writer.mode (back_size (recorded s)))

  entire : whole s.writer.entries (entry_area s) ≡ true
  entire =
      and_first (whole s.writer.entries (entry_area s)) (counts_agree s.counts (recorded s))
      (and_first counted backed a.all)

  agree : counts_agree s.counts (recorded s) ≡ true
  agree =
      and_second (whole s.writer.entries (entry_area s)) (counts_agree s.counts (recorded s))
      (and_first counted backed a.all)

  back_is : s.writer.back ≡ back_in s.writer.mode (back_size (recorded s))
  back_is =
      eqb-true s.writer.back (back_in s.writer.mode (back_size (recorded s)))
      (and_second counted backed a.all)

  pub area_is : entry_area s ≡ cat entry_bytes (recorded s)
  area_is = area_kept s.writer.end s.writer.entries s.buffer bytes entire

  pub ends : s.writer.end ≡ head_size + entries_size (recorded s)
  ends = stored_end s.writer.end s.writer.entries s.buffer bytes entire f.low (omega (arith, f.high, f.same_length))

  pub ids_are : All (λ (e : Entry). e.id < 2 ^ 32) (recorded s)
  ids_are =
      ids_words s.writer.entries (entry_area s)
      (bytes_take (s.writer.end - head_size) (drop head_size s.buffer) (bytes_drop head_size s.buffer bytes))

  pub number : length (recorded s) ≡ s.writer.entries
  number = length-entries_in s.writer.entries (entry_area s)

  sizes : (finished_size s.writer ≤ s.writer.length) × (finished_size s.writer ≤ 4294967295)
  sizes = not_too_large s.writer.length (finished_size s.writer) a.fine

  pub end_small : s.writer.end ≤ 4294967295
  end_small = omega (arith, sizes.1)

  backs_in : back_in s.writer.mode s.writer.back ≡ back_in s.writer.mode (back_size (recorded s))
  backs_in = ap (back_in s.writer.mode) back_is ∙ back_in_twice s.writer.mode (back_size (recorded s))

  pub written : length s.counts ≡ 256 → Written s.writer.mode s.writer.repeats s.writer.length (recorded s) s
  written tables =
      record {
        mode_is = refl;
        repeats_is = refl;
        length_is = refl;
        length_kept = sym f.same_length;
        end = ends;
        entries = sym number;
        back_size_lem = back_is;
        tables = tables;
        counts = λ t h. count_of t h;
        area = ap (λ (k : ℕ). take k (drop head_size s.buffer)) size ∙ area_is;
        within = omega (arith, sizes.0, ends, number, backs_in);
        below = omega (arith, sizes.1, ends, number, backs_in);
        ids = backs_words (recorded s) ids_are;
      }
    where
      size : entries_size (recorded s) ≡ s.writer.end - head_size
      size = omega (arith, ends)

      zero_first : (t : ℕ) → 0 + t ≡ t
      zero_first t = omega arith

      count_of : (t : ℕ) → t < 256 → get_or s.counts t 0 ≡ count t (placed head_size (recorded s))
      count_of t h =
          rw zero_first at
          (eqb-true (get_or s.counts (0 + t) 0) (count (0 + t) (placed head_size (recorded s)))
          (all_each (λ (t : ℕ). eqb (get_or s.counts t 0) (count t (placed head_size (recorded s)))) 0 256 t agree h))

  -- the entries stand in the bytes before the end
  pub entries_stand : At (take s.writer.end s.buffer) head_size (cat entry_bytes (recorded s))
  entries_stand =
      record {
        post = [];
        stands = drop-take head_size s.writer.end s.buffer ∙ area_is ∙ sym (append-nil (cat entry_bytes (recorded s)));
      }
