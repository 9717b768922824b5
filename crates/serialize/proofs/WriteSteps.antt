-- The steps of serializing: the sizes, where the back array begins, head and rows. Assumes nothing.
use Rattle.std.proofs.Common.{◌≡◌, ℕ, ◌+◌, ◌-◌, ◌*◌, ◌<◌, ◌≤◌, Bool, false, eqb, List, replicate, sym, ap, ◌∙◌, ap₂, arith, eq-eqb, ne_eqb, le-leb}
use lib.Seq.{sets}
use borrow.Author.Tests.{lt-leb}
use Rattle.image.specs.Image.{back_in, flag_word, head_bytes}
use Rattle.image.specs.declared.Mode.{Mode}
use Rattle.image.specs.declared.Mode.TheVariants.{Twoway, Oneway}
use Rattle.serialize.specs.Record.{finished_of, none_above}
use Rattle.serialize.specs.Steps.Written.{rows_from, back_offset_of, headed, zeroed, begun_image, by_tables}
use Rattle.serialize.proofs.Choices.{cond_holds}

pub back_in_le : (mode : Mode) (n : ℕ) → back_in mode n ≤ n
back_in_le Twoway n = omega arith
back_in_le Oneway n = omega arith

module _ (mode : Mode) (end entries back : ℕ) where
  -- where the back array stands
  pub back_offset_none : (n : ℕ) → n ≡ back_in mode back → n ≡ 0 → 0 ≡ back_offset_of mode end entries back
  unfolding back_offset_of
  back_offset_none n e z = rw (eq-eqb (back_in mode back) 0 (sym e ∙ z))

  pub back_offset_some : (n : ℕ) → n ≡ back_in mode back → (n ≡ 0 → ⊥) → end + 16 * entries ≡ back_offset_of mode end entries back
  unfolding back_offset_of
  back_offset_some n e z = rw (ne_eqb (back_in mode back) 0 (λ y. z (e ∙ y)))

  pub back_offset_le : back_offset_of mode end entries back ≤ end + 16 * entries
  unfolding back_offset_of
  back_offset_le = cond_holds (λ (o : ℕ). o ≤ end + 16 * entries) (eqb (back_in mode back) 0) (omega arith) (omega arith)

  -- head and rows
  pub headed_parts : (counts buf b1 b2 : List ℕ) (n f k l : ℕ)
      → n ≡ finished_of mode end entries back → f ≡ flag_word mode → k ≡ back_in mode back → l ≡ back_offset_of mode end entries back
      → b1 ≡ sets buf 0 (head_bytes n f k l) → b2 ≡ sets b1 24 (rows_from counts end 0 256) → b2 ≡ headed mode end entries back counts buf
  unfolding headed
  headed_parts counts buf b1 b2 n f k l en ef ek el p q =
      let size = finished_of mode end entries back in
      let back_at = back_offset_of mode end entries back in
      let first : b1 ≡ sets buf 0 (head_bytes size (flag_word mode) (back_in mode back) back_at) =
      p ∙ ap (λ (x : ℕ). sets buf 0 (head_bytes x f k l)) en ∙ ap (λ (x : ℕ). sets buf 0 (head_bytes size x k l)) ef
      ∙ ap₂ (λ (x : ℕ) (y : ℕ). sets buf 0 (head_bytes size (flag_word mode) x y)) ek el in
      q ∙ ap (λ (x : List ℕ). sets x 24 (rows_from counts end 0 256)) first

  -- and the back array cleared
  pub begun_parts : (counts buf : List ℕ) {b1 b2 : List ℕ} {n : ℕ} → b1 ≡ headed mode end entries back counts buf → n ≡ finished_of mode end entries back
      → b2 ≡ sets b1 (end + 16 * entries) (replicate (n - (end + 16 * entries)) 0) → b2 ≡ begun_image mode end entries back counts buf
  unfolding begun_image zeroed
  begun_parts counts buf p en q =
      q ∙ ap₂ (λ (b : List ℕ) (k : ℕ). sets b (end + 16 * entries) (replicate (k - (end + 16 * entries)) 0)) p en

-- by tables, or one by one
pub by_tables_few : (counts : List ℕ) (entries : ℕ) → entries < 1024 → false ≡ by_tables counts entries
by_tables_few counts entries h = rw (lt-leb 1024 entries h)

pub by_tables_many : (counts : List ℕ) (entries : ℕ) (b : Bool) → 1024 ≤ entries → b ≡ none_above counts 4608 → b ≡ by_tables counts entries
by_tables_many counts entries b h e = rw (le-leb 1024 entries h) e
