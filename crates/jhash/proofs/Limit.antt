-- What `jhash` and `name_hash` answer on either side of the limit of 4,294,967,295 bytes: each has tested the name's length, and hashed from
-- the word that a, b and c begin with. Assumes nothing.
use Rattle.std.proofs.Common.{◌≡◌, ℕ, ◌+◌, ◌<◌, Bool, true, false, leb, List, [], ◌∷◌, ◌++◌, length, sym, ap, ◌∙◌, leb-false, leb-true}
use Rattle.jhash.specs.Lookup3.{equal_words, initial_word, initial, hash_rest}
use Rattle.jhash.specs.Outcome.{value, refusal}
use Rattle.jhash.specs.NameHash.{hash_outcome}
use Rattle.jhash.proofs.Blocks.{name_begin}
use Rattle.jhash.proofs.Outcomes.{short_answer, long_answer}

module _ (name : List ℕ) (start : ℕ) (long : Bool) (tested : long ≡ leb 4294967295 (length name)) where
  pub refuses : long ≡ true → refusal 9 ≡ hash_outcome name start
  refuses p = sym (long_answer name start (leb-true 4294967295 (length name) (sym tested ∙ p)))

  pub short : long ≡ false → length name < 4294967295
  short p = leb-false 4294967295 (length name) (sym tested ∙ p)

  pub hashes : long ≡ false → (x h : ℕ) → x ≡ initial_word (length name + 1) start → h ≡ hash_rest (equal_words x) (name ++ 0 ∷ [])
      → value h ≡ hash_outcome name start
  unfolding initial
  hashes p x h xe he =
      ap value (he ∙ ap (λ (y : ℕ). hash_rest (equal_words y) (name ++ 0 ∷ [])) xe ∙ sym (name_begin name start))
      ∙ sym (short_answer name start (short p))
