-- The walk to a position and the walk of the whole file, a step at a time. Assumes nothing.
use Prim.Native.Nat.{ℕ, zero, suc, ◌+◌, ◌*◌, ◌/◌, ◌-◌, ◌≤◌, ◌<◌}
use native.Mathlib.Omega.{arith}
use mathlib.Core.Path.{◌≡◌, refl, sym, ap, ◌∙◌}
use mathlib.Core.Bool.{true}
use mathlib.Core.List.{List}
use lib.ListN.{length}
use Rattle.jhash.specs.Outcome.{Outcome, value, refusal}
use Rattle.jhash.proofs.ValueOrRefusal.{no_value, same_refusal}
use Rattle.bundle.specs.Steps.Contracts.{image_size}
use Rattle.bundle.specs.FileWalk.{Place, size_at, breaks, place_from, count_images_from, counting}
use Rattle.bundle.proofs.FileSteps.{Begins, Met, ended, broke, began, met, step_ended, step_broke, step_began}

module _ (file : List ℕ) (at : ℕ) where
  pub place_ended : (k : ℕ) → at ≡ length file → place_from file at k ≡ refusal 11
  unfolding place_from
  place_ended zero e = step_ended file at (refusal 11) (value (record { start = at; size = size_at file at })) e
  place_ended (suc k) e = step_ended file at (refusal 11) (place_from file (at + size_at file at) k) e

  pub place_broke : (k : ℕ) → (at ≡ length file → ⊥) → breaks file at ≡ true → place_from file at k ≡ refusal 10
  unfolding place_from
  place_broke zero n b = step_broke file at (refusal 11) (value (record { start = at; size = size_at file at })) n b
  place_broke (suc k) n b = step_broke file at (refusal 11) (place_from file (at + size_at file at) k) n b

  pub place_here : Begins file at → place_from file at 0 ≡ value (record { start = at; size = size_at file at })
  unfolding place_from
  place_here b = step_began file at (refusal 11) (value (record { start = at; size = size_at file at })) b

  pub place_next : (k : ℕ) → Begins file at → place_from file at (suc k) ≡ place_from file (at + size_at file at) k
  unfolding place_from
  place_next k b = step_began file at (refusal 11) (place_from file (at + size_at file at) k) b

  pub count_ended : (m n : ℕ) → at ≡ length file → count_images_from m file at n ≡ value n
  unfolding count_images_from
  count_ended zero n e = step_ended file at (value n) (refusal 10) e
  count_ended (suc m) n e = step_ended file at (value n) (count_images_from m file (at + size_at file at) (suc n)) e

  pub count_broke : (m n : ℕ) → (at ≡ length file → ⊥) → breaks file at ≡ true → count_images_from m file at n ≡ refusal 10
  unfolding count_images_from
  count_broke zero n e b = step_broke file at (value n) (refusal 10) e b
  count_broke (suc m) n e b = step_broke file at (value n) (count_images_from m file (at + size_at file at) (suc n)) e b

  pub count_next : (m n : ℕ) → Begins file at → count_images_from (suc m) file at n ≡ count_images_from m file (at + size_at file at) (suc n)
  unfolding count_images_from
  count_next m n b = step_began file at (value n) (count_images_from m file (at + size_at file at) (suc n)) b

  -- a step that is refused ends the walk
  pub place_refused : (k m : ℕ) → refusal k ≡ image_size file at → place_from file at m ≡ refusal k
  place_refused k m r = by_case (met file at)
    where
      by_case : Met file at → place_from file at m ≡ refusal k
      by_case (ended q) =
          place_ended m q ∙ ap refusal (same_refusal 11 k (sym (step_ended file at (refusal 11) (value (size_at file at)) q) ∙ sym r))
      by_case (broke n b) =
          place_broke m n b ∙ ap refusal (same_refusal 10 k (sym (step_broke file at (refusal 11) (value (size_at file at)) n b) ∙ sym r))
      by_case (began b) = absurd (no_value k (size_at file at) (r ∙ step_began file at (refusal 11) (value (size_at file at)) b))

  pub count_refused : (k m n : ℕ) → (at ≡ length file → ⊥) → refusal k ≡ image_size file at → count_images_from m file at n ≡ refusal k
  count_refused k m n before r = by_case (met file at)
    where
      by_case : Met file at → count_images_from m file at n ≡ refusal k
      by_case (ended q) = absurd (before q)
      by_case (broke d b) = count_broke m n d b ∙ sym (step_broke file at (refusal 11) (value (size_at file at)) d b) ∙ sym r
      by_case (began b) = absurd (no_value k (size_at file at) (r ∙ step_began file at (refusal 11) (value (size_at file at)) b))

  pub count_over : (n : ℕ) → Begins file at → count_images_from 0 file at n ≡ refusal 10
  unfolding count_images_from
  count_over n b = step_began file at (value n) (refusal 10) b

-- a step of the code's loop over positions, where size is that of the image at `at`
pub place_turn : (file : List ℕ) (at size left : ℕ) (x : Outcome Place) → Begins file at → size_at file at ≡ size → (left ≡ 0 → ⊥)
    → place_from file at left ≡ x → place_from file (at + size) (left - 1) ≡ x
place_turn file at size left x b e n h =
    let s : left ≡ suc (left - 1) = omega arith in
    ap (λ (w : ℕ). place_from file (at + w) (left - 1)) (sym e) ∙ sym (place_next file at (left - 1) b) ∙ ap (place_from file at) (sym s) ∙ h

-- ---- the whole file

-- how far a walk of the whole file has come: n images before `at`, and what is left of the walk
pub record Counting (file : List ℕ) (at n : ℕ) (x : Outcome ℕ) : Type 0 where
  pub inside : at ≤ length file
  pub few : n ≤ at
  pub most : ℕ
  pub enough : length file - at < 2072 * suc most
  pub rest : count_images_from most file at n ≡ x

pub counting_starts : (file : List ℕ) → Counting file 0 0 (counting file)
counting_starts file = record {
  inside = omega arith;
  few = omega arith;
  most = length file / 2072;
  enough = omega arith;
  rest = refl;
}

pub counting_turn : (file : List ℕ) (at n size : ℕ) (x : Outcome ℕ) → Begins file at → size_at file at ≡ size → Counting file at n x
    → Counting file (at + size) (n + 1) x
counting_turn file at n size x b e c = counting_behind c.most c.enough c.rest
  where
    counting_behind : (m : ℕ) → length file - at < 2072 * suc m → count_images_from m file at n ≡ x → Counting file (at + size) (n + 1) x
    counting_behind zero h r = let i = b.inside in let l = b.large in absurd (omega arith)
    counting_behind (suc m) h r =
        let i = b.inside in
        let l = b.large in
        let f = c.few in
        let s : n + 1 ≡ suc n = omega arith in
        record {
          inside = omega arith;
          few = omega arith;
          most = m;
          enough = omega arith;
          rest =
              ap (λ (w : ℕ). count_images_from m file (at + w) (n + 1)) (sym e) ∙ ap (count_images_from m file (at + size_at file at)) s
              ∙ sym (count_next file at m n b) ∙ r;
        }
