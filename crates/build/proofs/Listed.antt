-- The entries of names and ids. Assumes nothing.
use Prim.Native.Nat.{ℕ, zero, suc, ◌≤◌, ◌<◌}
use native.Mathlib.Omega.{arith}
use mathlib.Core.Path.{◌≡◌, refl, ap}
use mathlib.Core.List.{List, [], ◌∷◌, map}
use lib.ListN.{length, get_or, take}
use Rattle.image.specs.Image.{Entry, back_size}
use Rattle.image.specs.PackedNames.{nth}
use Rattle.writer.specs.Put.{entry_of}
use Rattle.lists.specs.Calls.{puts}
use Rattle.build.specs.Build.{calls_of}
use Rattle.build.specs.Needs.{ids_back}
use Rattle.build.specs.Steps.Steps.{entries_listed}

pub length_listed : (xs : List (List ℕ)) (ids : List ℕ) → length xs ≤ length ids → length (entries_listed xs ids) ≡ length xs
unfolding calls_of puts
length_listed [] ids h = refl
length_listed (x ∷ xs) [] h = absurd (omega arith)
length_listed (x ∷ xs) (id ∷ ids) h = let k : length xs ≤ length ids = omega arith in ap suc (length_listed xs ids k)

pub nth_listed : (xs : List (List ℕ)) (ids : List ℕ) (i : ℕ) (d : Entry) → length xs ≤ length ids → i < length xs
    → get_or (entries_listed xs ids) i d ≡ entry_of (nth xs i) (get_or ids i 0)
unfolding calls_of puts
nth_listed [] ids i d h k = absurd (omega arith)
nth_listed (x ∷ xs) [] i d h k = absurd (omega arith)
nth_listed (x ∷ xs) (id ∷ ids) zero d h k = refl
nth_listed (x ∷ xs) (id ∷ ids) (suc i) d h k =
    let m : length xs ≤ length ids = omega arith in
    let l : i < length xs = omega arith in
    nth_listed xs ids i d m l

pub names_listed : (xs : List (List ℕ)) (ids : List ℕ) → length xs ≤ length ids → map (λ (e : Entry). e.name) (entries_listed xs ids) ≡ xs
unfolding calls_of puts
names_listed [] ids h = refl
names_listed (x ∷ xs) [] h = absurd (omega arith)
names_listed (x ∷ xs) (id ∷ ids) h = ap (λ (l : List (List ℕ)). x ∷ l) (names_listed xs ids (omega arith))

pub back_listed : (xs : List (List ℕ)) (ids : List ℕ) → length xs ≤ length ids → back_size (entries_listed xs ids) ≡ ids_back (take (length xs) ids)
unfolding calls_of puts back_size ids_back
back_listed [] ids h = refl
back_listed (x ∷ xs) [] h = absurd (omega arith)
back_listed (x ∷ xs) (id ∷ ids) h = omega (arith, back_listed xs ids (omega arith))

-- ids that are words
pub back_words_lem : (ids : List ℕ) (top n : ℕ) → ((i : ℕ) → i < n → get_or ids i 0 < top) → ids_back (take n ids) ≤ top
unfolding ids_back
back_words_lem ids top zero h = omega arith
back_words_lem [] top (suc n) h = omega arith
back_words_lem (id ∷ ids) top (suc n) h =
    let first : id < top = h 0 (omega arith) in
    omega (arith, back_words_lem ids top n (λ i k. h (suc i) (omega arith)))
