-- What append answers and leaves in each case, as its checks go. Assumes nothing.
use Prim.Native.Nat.{ℕ, ◌+◌, ◌-◌, ◌≤◌, ◌<◌}
use native.Mathlib.Omega.{arith}
use mathlib.Core.Path.{◌≡◌, refl, sym, ap, ◌∙◌}
use mathlib.Core.Bool.{Bool, true, false, cond, not, ◌||◌}
use mathlib.Core.List.{List, ◌++◌}
use borrow.Author.Tests.{lt-ltb, le-ltb, ltb-false, eq-eqb, ne_eqb, eqb-true, not-false}
use lib.Dec.{eqb, ltb}
use lib.ListN.{length, take, drop, length-append}
use lib.Seq.{sets, sets-eq, length-take-le, take_at}
use Rattle.std.specs.Prelude.{Result, Ok, Err}
use Rattle.std.specs.Result.{is_err}
use Rattle.jhash.specs.Outcome.{Outcome, value, refusal, outcome_of}
use Rattle.jhash.specs.declared.refusals.Refusal.{Refusal}
use Rattle.jhash.proofs.ValueOrRefusal.{no_value, same_value}
use Rattle.image.proofs.Bools.{false_not_true, or_false_first, or_false_second, chose_first, chose_second}
use Rattle.bundle.specs.FileWalk.{counting}
use Rattle.bundle.specs.Append.{is_value, whole_file, unfit, append_refusal, appending, after_append}

ten_none : ◌≡◌ {A = ℕ} 10 0 → ⊥
ten_none z = omega arith

three_none : ◌≡◌ {A = ℕ} 3 0 → ⊥
three_none z = omega arith

module _ (buf : List ℕ) (n : ℕ) (image : List ℕ) where
  -- the decision, check by check
  pub refuses_long : length buf < n → 10 ≡ append_refusal buf n image
  unfolding append_refusal
  refuses_long h = rw (lt-ltb (length buf) n h)

  pub refuses_broken : n ≤ length buf → whole_file (take n buf) ≡ false → 10 ≡ append_refusal buf n image
  unfolding append_refusal
  refuses_broken h w = rw (le-ltb (length buf) n h, w)

  pub refuses_unfit : n ≤ length buf → whole_file (take n buf) ≡ true → unfit image ≡ true → 10 ≡ append_refusal buf n image
  unfolding append_refusal
  refuses_unfit h w u = rw (le-ltb (length buf) n h, w, u)

  pub refuses_full : n ≤ length buf → whole_file (take n buf) ≡ true → unfit image ≡ false → length buf - n < length image → 3 ≡ append_refusal buf n image
  unfolding append_refusal
  refuses_full h w u r = rw (le-ltb (length buf) n h, w, u, lt-ltb (length buf) (n + length image) (omega arith))

  pub accepts : n ≤ length buf → whole_file (take n buf) ≡ true → unfit image ≡ false → length image ≤ length buf - n → 0 ≡ append_refusal buf n image
  unfolding append_refusal
  accepts h w u r = rw (le-ltb (length buf) n h, w, u, le-ltb (length buf) (n + length image) (omega arith))

  -- what an accepted append has passed
  pub record Passed : Type 0 where
    pub inside : n ≤ length buf
    pub walked : whole_file (take n buf) ≡ true
    pub fit : unfit image ≡ false
    pub room : n + length image ≤ length buf

  pub passed : append_refusal buf n image ≡ 0 → Passed
  unfolding append_refusal
  passed h =
      let long = ltb (length buf) n in
      let broken = not (whole_file (take n buf)) in
      let full = ltb (length buf) (n + length image) in
      let fine = chose_second {A = ℕ} (long || broken || unfit image) 10 (cond full 3 0) 0 ten_none h in
      let front = or_false_first (long || broken) (unfit image) fine.0 in
      record {
        inside = ltb-false (length buf) n (or_false_first long broken front);
        walked = not-false (whole_file (take n buf)) (or_false_second long broken front);
        fit = or_false_second (long || broken) (unfit image) fine.0;
        room = ltb-false (length buf) (n + length image) (chose_second {A = ℕ} full 3 0 0 three_none fine.1).0;
      }

  -- the answer and the effect: a refusal leaves everything, an accepted append writes the image's bytes
  pub refused : (k : ℕ) → k ≡ append_refusal buf n image → (k ≡ 0 → ⊥) → (refusal k ≡ appending buf n image) × (buf ≡ after_append buf n image)
  unfolding appending after_append
  refused k told some = rw (ne_eqb (append_refusal buf n image) 0 (λ z. some (told ∙ z))) (ap refusal told, refl)

  pub accepted : append_refusal buf n image ≡ 0 → (value (n + length image) ≡ appending buf n image) × (sets buf n image ≡ after_append buf n image)
  unfolding appending after_append
  accepted told = rw (eq-eqb (append_refusal buf n image) 0 told) (refl, refl)

  -- and the other way round: what an answer says of the decision
  pub was_accepted : (m : ℕ) → appending buf n image ≡ value m → (append_refusal buf n image ≡ 0) × (m ≡ n + length image)
  unfolding appending
  was_accepted m e =
      let due = append_refusal buf n image in
      let chosen = chose_first (eqb due 0) (value (n + length image)) (refusal due) (value m) (no_value due m) e in
      (eqb-true due 0 chosen.0, sym (same_value (n + length image) m chosen.1))

  pub was_refused : (r : ℕ) → appending buf n image ≡ refusal r → after_append buf n image ≡ buf
  unfolding appending after_append
  was_refused r e =
      let due = append_refusal buf n image in
      let size = n + length image in
      let chosen = chose_second (eqb due 0) (value size) (refusal due) (refusal r) (λ z. no_value r size (sym z)) e in
      ap (λ (b : Bool). cond b (sets buf n image) buf) chosen.0

  pub was_sets : (m : ℕ) → appending buf n image ≡ value m → sets buf n image ≡ after_append buf n image
  was_sets m e = (accepted (was_accepted m e).0).1

  -- what an accepted append leaves in the buffer, by its three parts
  pub writes : append_refusal buf n image ≡ 0 → after_append buf n image ≡ take n buf ++ image ++ drop (n + length image) buf
  writes e = sym (accepted e).1 ∙ sets-eq image buf n (passed e).room

  pub file_joined : append_refusal buf n image ≡ 0 → take (n + length image) (after_append buf n image) ≡ take n buf ++ image
  file_joined e =
      let front : length (take n buf ++ image) ≡ n + length image =
      length-append (take n buf) image ∙ ap (λ (k : ℕ). k + length image) (length-take-le n buf (passed e).inside) in
      ap (take (n + length image)) (writes e) ∙ take_at (take n buf ++ image) (drop (n + length image) buf) (n + length image) front

-- whether the walk is refused, by what the code tests
pub walked : (r : Result ℕ Refusal) (b : Bool) → is_err r ≡ b → is_value (outcome_of r) ≡ not b
walked (Ok n) b e = ap not e
walked (Err k) b e = ap not e

-- a walk of the whole file came to its end: so many images
pub whole_counts : (file : List ℕ) → whole_file file ≡ true → (n : ℕ) × (counting file ≡ value n)
whole_counts file e = counted_where_value (counting file) refl e
  where
    counted_where_value : (o : Outcome ℕ) → counting file ≡ o → is_value o ≡ true → (n : ℕ) × (counting file ≡ value n)
    counted_where_value (value n) q z = (n, q)
    counted_where_value (refusal k) q z = absurd (false_not_true z)
