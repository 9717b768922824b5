-- The sizes of entries with packed names. Assumes nothing.
use Prim.Native.Nat.{ℕ, zero, suc, ◌+◌, ◌*◌, ◌≤◌, ◌<◌}
use native.Mathlib.Omega.{arith}
use native.Mathlib.Numerals.{add-one}
use mathlib.Core.Path.{◌≡◌, refl, sym, ap, ◌∙◌}
use mathlib.Core.Bool.{false}
use mathlib.Core.List.{List, [], ◌∷◌, ◌++◌, map}
use lib.ListN.{length, get_or, take, length-map, get_or-map}
use lib.Seq.{take_all, take-suc}
use Rattle.image.specs.Image.{Entry, head_size, entries_size}
use Rattle.image.proofs.Between.{length_between}
use Rattle.image.proofs.Sizes.{entries_size-append}
use Rattle.image.specs.PackedNames.{names, invalid_ends, nth, begin_of}
use Rattle.image.proofs.NameEnds.{length_names, nth_name, placed, begin_next}

abbrev entry_offset : List ℕ → ℕ → ℕ
entry_offset ends i = head_size + begin_of ends i + 9 * i

module _ (bytes ends : List ℕ) (good : invalid_ends (length bytes) 0 ends ≡ false) where
  abbrev xs : List (List ℕ)
  xs = names bytes ends

  name_long : (i : ℕ) → i < length ends → begin_of ends i + length (nth xs i) ≡ begin_of ends (i + 1)
  name_long i h =
      let p = placed (length bytes) ends i good h in
      let is = ap length (nth_name bytes ends i h) ∙ length_between bytes (begin_of ends i) (get_or ends i 0) p.rises p.inside in
      omega (arith, is, p.rises, begin_next ends i)

  -- ---- entries with these names stand at these offsets

  module _ (es : List Entry) (named : map (λ (e : Entry). e.name) es ≡ names bytes ends) where
    abbrev none : Entry
    none = record { name = []; id = 0 }

    as_many : length es ≡ length ends
    as_many = sym (length-map es (λ (e : Entry). e.name)) ∙ ap length named ∙ length_names bytes ends

    its_name : (i : ℕ) → (get_or es i none).name ≡ nth (names bytes ends) i
    its_name i = sym (get_or-map (λ (e : Entry). e.name) es i none) ∙ ap (λ (l : List (List ℕ)). nth l i) named

    first_entries : (i : ℕ) → i < length ends → take (suc i) es ≡ take i es ++ (get_or es i none ∷ [])
    first_entries i h = take-suc es i none (omega (arith, as_many))

    one_size : (i : ℕ) → entries_size (get_or es i none ∷ []) ≡ length (nth xs i) + 9
    unfolding entries_size
    one_size i = omega (arith, ap length (its_name i))

    size_before : (i : ℕ) → i ≤ length ends → head_size + entries_size (take i es) ≡ entry_offset ends i
    unfolding entries_size
    size_before zero h = refl
    size_before (suc i) h =
        let k : i < length ends = omega arith in
        let all = ap entries_size (first_entries i k) ∙ entries_size-append (take i es) (get_or es i none ∷ []) in
        omega (arith, all, size_before i (omega arith), one_size i, name_long i k, ap (begin_of ends) (add-one i))

    pub size_all : head_size + entries_size es ≡ entry_offset ends (length ends)
    size_all =
        ap (λ (l : List Entry). head_size + entries_size l) (sym (take_all (length ends) es (omega (arith, as_many)))) ∙ size_before (length ends) (omega arith)
