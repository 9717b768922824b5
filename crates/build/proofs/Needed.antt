-- What a list needs is the size of the image of all its names, so a buffer of so many bytes refuses none for room. Assumes nothing.
use Prim.Native.Nat.{ℕ, ◌+◌, ◌*◌, ◌-◌, ◌≤◌, ◌<◌, max}
use native.Mathlib.Omega.{arith}
use native.Mathlib.Numerals.{add-one}
use mathlib.Core.Path.{◌≡◌, refl, sym, ap, ◌∙◌}
use mathlib.Core.Bool.{false, ◌||◌}
use mathlib.Core.List.{List, [], ◌∷◌}
use borrow.Author.Tests.{ltb-false}
use lib.Dec.{ltb}
use lib.ListN.{length, get_or, take, drop, length-append, drop_of_length-le}
use lib.Seq.{take_all, drop-cons, length-take-le}
use Rattle.image.specs.declared.Mode.{Mode}
use Rattle.image.specs.declared.Mode.TheVariants.{Twoway, Oneway}
use Rattle.image.specs.Image.{head_size, back_size, back_in}
use Rattle.image.proofs.Between.{length_between}
use Rattle.image.proofs.Bools.{or_false_first, or_false_second}
use Rattle.image.specs.PackedNames.{names_from, names, invalid_ends, packed_bytes, begin_of}
use Rattle.image.proofs.NameEnds.{begin_later}
use Rattle.writer.specs.declared.Repeats.{Repeats}
use Rattle.lists.specs.Calls.{puts_size, size_of, puts, WordIds}
use Rattle.lists.specs.Demand3.{answers_of}
use Rattle.lists.proofs.Capacity.{capacity, back_rises}
use Rattle.build.specs.declared.needs.Needs.{Needs}
use Rattle.build.specs.Build.{calls_of, listed}
use Rattle.build.specs.Needs.{at_most, ids_back, bytes_needed, needed, words_each}
use Rattle.build.specs.Theorems.Needs.{NeedsHold}
use Rattle.build.specs.Steps.Capacity.{bytes_for_all, RoomForAll, Capacity}
use Rattle.build.proofs.Listed.{back_listed}

-- ---- the largest id

pub no_back : (ids : List ℕ) → length ids ≡ 0 → 0 ≡ ids_back ids
unfolding ids_back
no_back [] e = refl
no_back (id ∷ ids) e = absurd (omega arith)

-- top is the largest of the first i ids
pub record LargestTo (ids : List ℕ) (i top : ℕ) : Type 0 where
  pub inside : i ≤ length ids
  pub is : max (top + 1) (ids_back (drop i ids)) ≡ ids_back ids

pub largest_start : (ids : List ℕ) → 0 < length ids → LargestTo ids 0 0
unfolding ids_back
largest_start [] some = absurd (omega arith)
largest_start (id ∷ ids) some = record { inside = omega arith; is = omega arith }

pub largest_step : (ids : List ℕ) (i top r : ℕ) → LargestTo ids i top → i < length ids → r ≡ max top (get_or ids i 0) → LargestTo ids (i + 1) r
unfolding ids_back
largest_step ids i top r s h e =
    let now = ap ids_back (drop-cons ids i 0 h) in
    let next = ap (λ (k : ℕ). ids_back (drop k ids)) (add-one i) in
    record { inside = omega arith; is = omega (arith, s.is, e, now, next) }

pub largest_end : (ids : List ℕ) (i top : ℕ) → LargestTo ids i top → length ids ≤ i → top + 1 ≡ ids_back ids
unfolding ids_back
largest_end ids i top s h = omega (arith, s.is, ap ids_back (drop_of_length-le ids {i = i} h))

-- ---- the sums

-- no more than the largest id plus 1 counts
pub back_less : (mode : Mode) (n : ℕ) → back_in mode n ≤ n
back_less Twoway n = omega arith
back_less Oneway n = omega arith

-- each sum is held at 2^64 − 1, and so is the whole
pub whole_sum : (mode : Mode) (size : ℕ) (ids : List ℕ) (back each first r : ℕ) → back ≡ back_in mode (ids_back ids) → each ≡ at_most (25 * length ids)
    → first ≡ at_most (2072 + 4 * back + each) → r ≡ at_most (first + size) → r ≡ bytes_needed mode size ids
unfolding bytes_needed
whole_sum mode size ids back each first r p q s t = omega arith

pub needs_are : (mode : Mode) (size : ℕ) (ids : List ℕ) (b w : ℕ) → b ≡ bytes_needed mode size ids → w ≡ at_most (words_each * length ids)
    → ◌≡◌ {A = Needs} (record { bytes = b; words = w }) (needed mode size ids)
unfolding needed
needs_are mode size ids b w p q = λ i. record { bytes = p i; words = q i }

-- ---- the image of all names has room

-- its size without the back array
pub sum_small : {mode : Mode} {ends ids : List ℕ} {capacity : ℕ} → length ends ≤ length ids → RoomForAll mode ends ids capacity
    → head_size + begin_of ends (length ends) + 25 * length ends ≤ 4294967295
unfolding bytes_needed
sum_small {mode} {ends} {ids} many fits = omega (arith, fits.small, length-take-le (length ends) ids many)

pub capacity_known : (mode : Mode) (ends ids : List ℕ) (r : Needs) (capacity : ℕ) → r ≡ needed mode (get_or ends (length ends - 1) 0) (take (length ends) ids)
    → (length ends ≡ 0 → ⊥) → length ends ≤ length ids → r.bytes ≤ capacity → r.bytes ≤ 4294967295 → Capacity mode ends ids capacity
unfolding needed bytes_needed
capacity_known mode ends ids r capacity e some many within small =
    let bytes : r.bytes ≡ bytes_for_all mode ends ids =
    ap (λ (x : Needs). x.bytes) e ∙ ap (λ (size : ℕ). bytes_needed mode size (take (length ends) ids)) (sym (begin_later ends (length ends) some)) in
    record {
      fits = record { within = omega (arith, bytes, within); small = omega (arith, bytes, small) };
      some = omega (arith, some);
    }

-- ---- the puts of the names

-- the names that lie in the bytes from s on need no more than those, and 25 for each id
puts_most : (bytes : List ℕ) (s : ℕ) (ends ids : List ℕ) → s ≤ length bytes → invalid_ends (length bytes) s ends ≡ false
    → s + puts_size (puts (calls_of (names_from bytes s ends) ids)) ≤ length bytes + 25 * length ids
unfolding names_from invalid_ends calls_of puts puts_size
puts_most bytes s [] ids inside good = omega arith
puts_most bytes s (e ∷ es) [] inside good = omega arith
puts_most bytes s (e ∷ es) (id ∷ ids) inside good =
    let size = length bytes in
    let two = or_false_first (ltb e s || ltb size e) (invalid_ends size e es) good in
    let rises = ltb-false e s (or_false_first (ltb e s) (ltb size e) two) in
    let within = ltb-false size e (or_false_second (ltb e s) (ltb size e) two) in
    let later = puts_most bytes e es ids within (or_false_second (ltb e s || ltb size e) (invalid_ends size e es) good) in
    omega (arith, rises, length_between bytes s e rises within, later)

back_most : (xs : List (List ℕ)) (ids : List ℕ) → back_size (puts (calls_of xs ids)) ≤ ids_back ids
unfolding calls_of puts back_size ids_back
back_most [] ids = omega arith
back_most (x ∷ xs) [] = omega arith
back_most (x ∷ xs) (id ∷ ids) = omega (arith, back_most xs ids)

size_most : (mode : Mode) (bytes ends ids : List ℕ) → invalid_ends (length bytes) 0 ends ≡ false
    → size_of mode (puts (listed bytes ends ids)) ≤ head_size + length bytes + 25 * length ids + 4 * back_in mode (ids_back ids)
unfolding size_of names
size_most mode bytes ends ids good =
    let backs = back_rises mode (back_size (puts (listed bytes ends ids))) (ids_back ids) (back_most (names bytes ends) ids) in
    omega (arith, puts_most bytes 0 ends ids (omega arith) good, backs)

none_refused : (mode : Mode) (repeats : Repeats) (buffer bytes ends ids : List ℕ) → invalid_ends (length bytes) 0 ends ≡ false
    → WordIds mode (listed bytes ends ids) → bytes_needed mode (length bytes) ids ≤ length buffer → bytes_needed mode (length bytes) ids ≤ 4294967295
    → (i : ℕ) → get_or (answers_of mode repeats buffer (listed bytes ends ids)) i 0 ≡ 3 → ⊥
unfolding bytes_needed
none_refused mode repeats buffer bytes ends ids good word within small =
    let most = size_most mode bytes ends ids good in
    capacity.none_refused mode repeats buffer (listed bytes ends ids) word (omega arith) (omega arith)

-- ---- packed names with nothing behind them

puts_joined : (xs : List (List ℕ)) (ids : List ℕ) → length xs ≡ length ids → puts_size (puts (calls_of xs ids)) ≡ length (packed_bytes xs) + 25 * length ids
unfolding calls_of puts puts_size packed_bytes
puts_joined [] [] h = refl
puts_joined [] (id ∷ ids) h = absurd (omega arith)
puts_joined (x ∷ xs) [] h = absurd (omega arith)
puts_joined (x ∷ xs) (id ∷ ids) h = omega (arith, puts_joined xs ids (omega arith), length-append x (packed_bytes xs))

exact : (mode : Mode) (xs : List (List ℕ)) (ids : List ℕ) → length xs ≡ length ids
    → bytes_needed mode (length (packed_bytes xs)) ids ≡ at_most (size_of mode (puts (calls_of xs ids)))
unfolding bytes_needed size_of
exact mode xs ids h =
    let whole = take_all (length xs) ids (omega arith) in
    omega (arith, puts_joined xs ids h, ap (back_in mode) (back_listed xs ids (omega arith)), ap (λ (l : List ℕ). back_in mode (ids_back l)) whole)

pub needs_hold : NeedsHold
needs_hold = record { none_refused = none_refused; exact = exact }
