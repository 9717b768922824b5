-- The worked examples hold, computed by the checker. Assumes nothing.
use Prim.Native.Nat.{ℕ, zero, suc, ◌+◌, ◌*◌, ◌≤◌, ◌<◌}
use native.Mathlib.Omega.{arith}
use mathlib.Core.Path.{◌≡◌, refl, sym, ap, ap₂, ◌∙◌}
use mathlib.Core.Bool.{Bool, true, false, cond, ◌&&◌}
use mathlib.Core.List.{List, [], ◌∷◌, ◌++◌, map}
use lib.ListN.{length, replicate}
use lib.Dec.{eqb, ltb, lit≤, lit<}
use borrow.Author.Tests.{ltb-true}
use Rattle.image.specs.Bytes.{word, le32, cat, filter, range, same}
use Rattle.image.specs.Head.{back_size_at, back_offset_at}
use Rattle.image.specs.Image.{head_size, image_size, contains_name, entry_bytes, entries_size, placed, of_table, bucket_bytes, table, table_bytes}
use Rattle.image.specs.Image.{entries_before}
use Rattle.image.specs.Image.{table_offset, table_row, back_size, placed_of_id, last_from, back_word, back_offset, head_bytes, head_words, table_rows, tables}
use Rattle.image.specs.Image.{back_words, image}
use Rattle.image.specs.Tables.{probe_sequence, first_empty, insert, insert_all, filled}
use Rattle.image.specs.Zero.{has_zero}
use Rattle.image.specs.declared.Mode.TheVariants.{Oneway}
use Rattle.image.proofs.AllOfList.{All, all_map}
use Rattle.image.proofs.Bools.{and_first, and_second}
use Rattle.writer.proofs.Agree.{zeros}
use Rattle.lists.specs.Calls.{accepted_from, accepted, put_due, puts_size, size_of, WordIds}
use Rattle.lists.proofs.CallLists.{list_accepted}
use Rattle.canonical.specs.Canonical.{canonical}
use Rattle.jhash.specs.Word.{AllBytes}
use Rattle.canonical.specs.Examples.Rows.{CanonicalRow, Holds, canonical_rows, HeadOnly, head_only_rows}
use Rattle.canonical.specs.Steps.Checks.{end_in}
use Rattle.canonical.proofs.ReadBack.{canonical_yes, canonical_only}
use Rattle.canonical.proofs.ChecksHold.{canonical_checked}
use Rattle.canonical.proofs.Theorem.{canonical_holds}

-- what is computed of a row: there is room for a head, ids are words, and these are the accepted puts
abbrev Computed : CanonicalRow → Type 0
Computed r = (head_size ≤ r.bytes) × WordIds r.mode r.calls × (accepted r.mode r.repeats r.bytes r.calls ≡ r.puts)

holds_in : (r : CanonicalRow) → Computed r → Holds r
holds_in r c buffer long =
    let room : head_size ≤ length buffer = omega (arith, c.0) in
    let of = canonical_holds.of_list r.mode r.repeats buffer r.calls room c.1 in (
      of.is_canonical,
      of.read_back
          ∙ list_accepted r.mode r.repeats buffer room r.calls c.1
          ∙ ap (λ (n : ℕ). accepted r.mode r.repeats n r.calls) long
          ∙ c.2,
    )

computed : All Computed canonical_rows
unfolding accepted accepted_from put_due has_zero contains_name same size_of puts_size back_size
computed = (
  (lit≤ tt, tt, refl),
  (
    (lit≤ tt, (tt, tt), refl),
    (
      (lit≤ tt, (tt, (tt, (tt, (tt, (tt, tt))))), refl),
      ((lit≤ tt, (tt, (tt, (tt, (tt, (tt, tt))))), refl), ((lit≤ tt, (lit< tt, (lit< tt, tt)), refl), ((lit≤ tt, (tt, tt), refl), tt))),
    ),
  ),
)

pub rows_hold : All Holds canonical_rows
rows_hold = all_map holds_in canonical_rows computed

-- ---- bytes without an entry: what is read of them is computed, not the decision

-- the empty one-way image
empty_image : image Oneway [] ≡ head_bytes 2072 1 0 0 ++ replicate 2048 0
unfolding le32 cat filter range entry_bytes entries_size placed of_table bucket_bytes table table_bytes entries_before table_offset table_row
    back_size placed_of_id
    last_from back_word back_offset head_bytes head_words table_rows tables back_words image probe_sequence first_empty insert insert_all filled
empty_image = refl

empty_fits : image_size Oneway [] ≤ 4294967295
unfolding entries_size
empty_fits = lit≤ tt

empty_canonical : canonical (head_bytes 2072 1 0 0 ++ replicate 2048 0) ≡ true
empty_canonical =
    canonical_yes (head_bytes 2072 1 0 0 ++ replicate 2048 0)
    record { mode = Oneway; puts = []; each = tt; fits = empty_fits; is = empty_image }

-- bytes that are looked at one by one, and bytes behind them
bytes_behind : (l r : List ℕ) → All (λ (x : ℕ). x < 256) l → AllBytes r → AllBytes (l ++ r)
bytes_behind [] r a b i = b i
bytes_behind (x ∷ l) r a b zero = a.0
bytes_behind (x ∷ l) r a b (suc i) = bytes_behind l r a.1 b i

below_256 : List ℕ → Bool
below_256 [] = true
below_256 (x ∷ l) = ltb x 256 && below_256 l

each_below : (l : List ℕ) → below_256 l ≡ true → All (λ (x : ℕ). x < 256) l
unfolding below_256
each_below [] h = tt
each_below (x ∷ l) h =
    (ltb-true x 256 (and_first (ltb x 256) (below_256 l) h), each_below l (and_second (ltb x 256) (below_256 l) h))

head_bytes_lem : All (λ (x : ℕ). x < 256) (head_bytes 2072 0 0 2072)
unfolding head_bytes le32 below_256
head_bytes_lem = each_below (head_bytes 2072 0 0 2072) refl

-- a back offset without a back array
no_array : back_size_at (head_bytes 2072 0 0 2072 ++ replicate 2048 0) ≡ 0
unfolding word le32 head_bytes
no_array = refl

an_offset : back_offset_at (head_bytes 2072 0 0 2072 ++ replicate 2048 0) ≡ 2072
unfolding word le32 head_bytes
an_offset = refl

offset_not : canonical (head_bytes 2072 0 0 2072 ++ replicate 2048 0) ≡ false
offset_not = answer_false (canonical (head_bytes 2072 0 0 2072 ++ replicate 2048 0)) refl
  where
    answer_false : (r : Bool) → canonical (head_bytes 2072 0 0 2072 ++ replicate 2048 0) ≡ r → r ≡ false
    answer_false false e = refl
    answer_false true e =
        let bytes = head_bytes 2072 0 0 2072 ++ replicate 2048 0 in
        let all : AllBytes bytes = bytes_behind (head_bytes 2072 0 0 2072) (replicate 2048 0) head_bytes_lem (λ i. rw (zeros 2048 i) (lit< tt)) in
        let made = canonical_only bytes all e in
        let said = (canonical_checked bytes made).back_start in
        let end = end_in bytes (length made.puts) + 16 * length made.puts in
        let z : ◌≡◌ {A = ℕ} 2072 0 = sym an_offset ∙ said ∙ ap (λ (b : ℕ). cond (eqb b 0) 0 end) no_array in
        absurd (omega arith)

pub head_only_rows_hold : map (λ (b : HeadOnly). canonical b.bytes) head_only_rows ≡ map (λ (b : HeadOnly). b.answer) head_only_rows
head_only_rows_hold = ap₂ (λ (x : Bool) (y : Bool). x ∷ y ∷ []) empty_canonical offset_not
