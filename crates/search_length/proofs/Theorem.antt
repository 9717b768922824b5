-- Average search length: the theorem. Assumes nothing.
use Prim.Native.Nat.{ℕ, suc, ◌+◌, ◌*◌, ◌/◌, ◌%◌, ◌<◌, ◌≤◌}
use native.Mathlib.Omega.{arith}
use native.Mathlib.Nat.{mod-lt, div-add-mod', suc-mul}
use mathlib.Core.Path.{◌≡◌, refl, sym, ap, ◌∙◌, subst}
use mathlib.Core.Bool.{Bool, true, false, cond}
use mathlib.Core.List.{List, [], ◌∷◌, ◌++◌}
use lib.ListN.{length, replicate}
use lib.Dec.{eqb}
use borrow.Author.Tests.{ne_eqb, eqb-true}
use Rattle.jhash.specs.NameHash.{hash_of}
use Rattle.jhash.specs.Outcome.{Outcome, value, refusal}
use Rattle.image.specs.Bytes.{filter}
use Rattle.image.specs.Image.{Entry, head_size, entry_size, placed}
use Rattle.image.specs.Image as image
use Rattle.image.specs.Tables.{table_of}
use Rattle.jhash.specs.Word.{AllBytes}
use Rattle.image.proofs.AllOfList.{All}
use Rattle.lookup_laws.specs.Answer.{table_puts}
use Rattle.canonical.specs.Canonical.{canonical, puts_in}
use Rattle.search_length.specs.SearchLengths.{search_length, total_of}
use Rattle.search_length.specs.Average.{entry_count, total, average_refusal, average_of, averaging, lengths_of, after_lengths}
use Rattle.search_length.specs.Theorems.AverageSearch.{name_in_table, entries_of_table, bound_of, sum, Searched, AverageSearch}
use Rattle.search_length.specs.declared.AverageLength.{AverageLength}
use Rattle.search_length.proofs.Histogram.{lengths_sixteen, lengths_sum, lengths_are, zeros, long}
use Rattle.search_length.proofs.Answers.{first_zero}
use Rattle.search_length.proofs.EntriesFound.{Bounded, all_bounded}

-- ---- sums over entries

total_least : (img : List ℕ) (all es : List Entry) → All (Bounded img all) es → length es ≤ total_of img es
unfolding total_of
total_least img all [] b = omega arith
total_least img all (e ∷ es) b = omega (arith, b.0.0, total_least img all es b.1)

total_most : (img : List ℕ) (all es : List Entry) → All (Bounded img all) es → total_of img es ≤ bound_of all es
unfolding total_of bound_of
total_most img all [] b = omega arith
total_most img all (e ∷ es) b = omega (arith, b.0.1, total_most img all es b.1)

total_each : (img : List ℕ) (before : List Entry) (e : Entry) (behind : List Entry)
    → total_of img (before ++ e ∷ behind) ≡ search_length img e + total_of img (before ++ behind)
unfolding total_of
total_each img [] e behind = refl
total_each img (f ∷ before) e behind = omega (arith, total_each img before e behind)

-- ---- table by table

-- a table's number of puts, with or without their places
places_kept : (t o : ℕ) (es : List Entry) → length (filter (image.in_table t) (placed o es)) ≡ length (filter (name_in_table t) es)
unfolding filter placed
places_kept t o [] = refl
places_kept t o (e ∷ es) = either_kept (eqb (table_of (hash_of e.name)) t) (places_kept t (o + entry_size e) es)
  where
    either_kept : (b : Bool) → length (filter (image.in_table t) (placed (o + entry_size e) es)) ≡ length (filter (name_in_table t) es)
        → length (cond b (record { entry = e; at = o } ∷ filter (image.in_table t) (placed (o + entry_size e) es))
        (filter (image.in_table t) (placed (o + entry_size e) es)))
        ≡ length (cond b (e ∷ filter (name_in_table t) es) (filter (name_in_table t) es))
    either_kept true h = omega arith
    either_kept false h = h

puts_kept : (name : List ℕ) (es : List Entry) → table_puts name es ≡ length (entries_of_table (table_of (hash_of name)) es)
unfolding table_puts image.of_table entries_of_table
puts_kept name es = places_kept (table_of (hash_of name)) head_size es

table_most : (img : List ℕ) (t : ℕ) (all es : List Entry) → All (Bounded img all) es
    → total_of img (filter (name_in_table t) es) ≤ length (filter (name_in_table t) es) * length (entries_of_table t all)
unfolding total_of filter
table_most img t all [] b = omega arith
table_most img t all (e ∷ es) b = either_bounded (eqb (table_of (hash_of e.name)) t) refl (table_most img t all es b.1)
  where
    rest : List Entry
    rest = filter (name_in_table t) es

    either_bounded : (q : Bool) → eqb (table_of (hash_of e.name)) t ≡ q
        → total_of img (filter (name_in_table t) es) ≤ length (filter (name_in_table t) es) * length (entries_of_table t all)
        → total_of img (cond q (e ∷ filter (name_in_table t) es) (filter (name_in_table t) es))
        ≤ length (cond q (e ∷ filter (name_in_table t) es) (filter (name_in_table t) es)) * length (entries_of_table t all)
    either_bounded true q h =
        let same : table_of (hash_of e.name) ≡ t = eqb-true _ _ q in
        let puts : table_puts e.name all ≡ length (entries_of_table t all) = puts_kept e.name all ∙ ap (λ (k : ℕ). length (entries_of_table k all)) same in
        one (search_length img e) (total_of img (filter (name_in_table t) es)) (length (filter (name_in_table t) es)) (length (entries_of_table t all))
        (omega (arith, b.0.1, puts)) h
      where
        one : (a s l n : ℕ) → a ≤ n → s ≤ l * n → a + s ≤ suc l * n
        one a s l n p q = omega (arith, suc-mul l n)
    either_bounded false q h = h

-- ---- a canonical image

none : sum (replicate {A = ℕ} 16 0) ≡ 0
unfolding sum
none = refl

searched : (img : List ℕ) → AllBytes img → canonical img ≡ true → Searched img
unfolding total lengths_of entries_of_table
searched img bytes own =
    let es = puts_in img in
    let b = all_bounded img bytes own in
    record {
      at_least = total_least img es es b;
      at_most = total_most img es es b;
      by_table = λ t. table_most img t es es b;
      summed = let s = lengths_sum img es (replicate 16 0) long in omega (arith, s, none);
      counted = λ k h. lengths_are img es (replicate 16 0) k long h ∙ (let z = zeros 16 k in omega (arith, z));
      sixteen = lengths_sixteen img es (replicate 16 0) long;
    }

-- ---- the answers

-- the average that an outcome holds, or another
average_or : AverageLength → Outcome AverageLength → AverageLength
average_or d (value m) = m
average_or d (refusal k) = d

is_value : Outcome AverageLength → ℕ
is_value (value m) = 1
is_value (refusal k) = 0

given : (img : List ℕ) (m : AverageLength) → averaging img ≡ value m → (average_of img ≡ m) × (average_refusal img ≡ 0)
unfolding averaging is_value average_or
given img m e = by_refusal (eqb (average_refusal img) 0) refl e
  where
    by_refusal : (t : Bool) → eqb (average_refusal img) 0 ≡ t → cond t (value (average_of img)) (refusal (average_refusal img)) ≡ value m
        → (average_of img ≡ m) × (average_refusal img ≡ 0)
    by_refusal true t e = (ap (average_or m) e, eqb-true _ _ t)
    by_refusal false t e = let z : ◌≡◌ {A = ℕ} 0 1 = ap is_value e in absurd (omega arith)

-- no refusal: there are entries
some_entries : (img : List ℕ) → average_refusal img ≡ 0 → 0 < entry_count img
unfolding average_refusal
some_entries img e = (first_zero (canonical img) (entry_count img) e).1

divides : (s n : ℕ) → 0 < n → (s / n * n + s % n ≡ s) × (s % n < n)
divides s n h = (div-add-mod' s n, mod-lt s {m = n} h)

pub average_search : AverageSearch
unfolding averaging average_refusal after_lengths
average_search =
    record {
      not_canonical = λ img h. rw h;
      no_entries = λ img h z. rw (h, z);
      accepted = λ img h more. rw (h, ne_eqb (entry_count img) 0 (λ z. omega arith));
      divided = λ img m e.
          let g = given img m e in
          subst (λ (x : AverageLength). (x.quotient * x.entries + x.remainder ≡ total img) × (x.remainder < x.entries)) g.0
          (divides (total img) (entry_count img) (some_entries img g.1));
      number = λ img m e. ap (λ (x : AverageLength). x.entries) (sym (given img m e).0);
      each_time = total_each;
      searched = searched;
      filled = λ img counts z. rw z;
      kept = λ img counts d. rw (ne_eqb (average_refusal img) 0 d);
    }
