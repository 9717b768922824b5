-- Words of which the first n are set to 0. Assumes nothing.
use Rattle.std.proofs.Common.{◌≡◌, ℕ, ◌+◌, ◌-◌, ◌<◌, ◌≤◌, List, ◌++◌, length, get_or, take, drop, replicate, sym, ap, ◌∙◌, arith}
use Rattle.std.proofs.lemmas.List.{get_or-drop, get_or-replicate, get_or-append_right, length-replicate, length-drop}
use Rattle.std.proofs.Math.ListN.{get_or-append, length-append, length-take}

pub record Cleared (words : List ℕ) (n : ℕ) (then : List ℕ) : Type 0 where
  pub zero : (i : ℕ) → i < n → get_or then i 0 ≡ 0
  pub kept : (i : ℕ) → n ≤ i → get_or then i 0 ≡ get_or words i 0
  pub long : length then ≡ length words

pub cleared : (words : List ℕ) (n : ℕ) → n ≤ length words → {xs : List ℕ} → xs ≡ replicate (length (take n words)) 0
    → Cleared words n (xs ++ drop n words)
cleared words n inside {xs} given =
    record {
      zero =
          λ i below. let short : i < length xs = omega (arith, size, below) in
          get_or-append xs (drop n words) 0 i short ∙ ap (λ (l : List ℕ). get_or l i 0) zeros ∙ get_or-replicate n i 0 0 below;
      kept =
          λ i above. get_or-append_right xs (drop n words) n i 0 size above
          ∙ get_or-drop n words (i - n) 0
          ∙ ap (λ (j : ℕ). get_or words j 0) (omega (arith, above));
      long = length-append xs (drop n words) ∙ omega (arith, size, length-drop n words, inside);
    }
  where
    zeros : xs ≡ replicate n 0
    zeros = given ∙ ap (λ (k : ℕ). replicate k 0) (omega (arith, length-take n words, inside))

    size : length xs ≡ n
    size = ap length zeros ∙ length-replicate n 0
