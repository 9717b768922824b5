-- The walk over blocks of 12 bytes: one turn, the end and the start of it. The zero byte after a name counts through
-- the length alone, since past the end of a list stand zeros anyway. Assumes nothing.
use Rattle.std.proofs.Common.{◌≡◌, ℕ, zero, suc, ◌+◌, ◌<◌, ◌≤◌, Bool, true, false, List, [], ◌∷◌, ◌++◌, length, get_or, drop, sym, refl, ap, ◌∙◌, arith}
use Rattle.std.proofs.Common.{length-append, length-drop, le-ltb, lt-ltb}
use native.Mathlib.Decide.{dec_lt}
use lib.Seq.{drop-append-le}
use Rattle.jhash.specs.Word.{word}
use Rattle.jhash.specs.Lookup3.{plus, added, mix, final, hash_blocks, hash_rest, initial, hashlittle}
use Rattle.jhash.specs.NameHash.{name_hash}
use Rattle.jhash.specs.declared.Words.{Words}

-- a zero byte more changes no word
zero_after : (l : List ℕ) (i : ℕ) → get_or (l ++ 0 ∷ []) i 0 ≡ get_or l i 0
zero_after [] zero = refl
zero_after [] (suc i) = refl
zero_after (x ∷ l) zero = refl
zero_after (x ∷ l) (suc i) = zero_after l i

word_zero : (l : List ℕ) (i : ℕ) → word (l ++ 0 ∷ []) i ≡ word l i
unfolding word
word_zero l i = simp zero_after

added_zero : (w : Words) (l : List ℕ) → added w (l ++ 0 ∷ []) ≡ added w l
unfolding added
added_zero w l = λ i. plus w (word_zero l 0 i) (word_zero l 4 i) (word_zero l 8 i)

-- a block more, where more than 12 bytes remain, and the end, where not
rest_more : (n : ℕ) (w : Words) (l : List ℕ) → 12 < length l → hash_blocks (suc n) w l ≡ hash_blocks n (mix (added w l)) (drop 12 l)
unfolding hash_blocks
rest_more n w l h =
    ap (λ (t : Bool). elim t [ true ↦ hash_blocks n (mix (added w l)) (drop 12 l) | false ↦ final (added w l) ]) (lt-ltb 12 (length l) h)

rest_last : (n : ℕ) (w : Words) (l : List ℕ) → length l ≤ 12 → hash_blocks n w l ≡ final (added w l)
unfolding hash_blocks
rest_last zero w l h = refl
rest_last (suc n) w l h =
    ap (λ (t : Bool). elim t [ true ↦ hash_blocks n (mix (added w l)) (drop 12 l) | false ↦ final (added w l) ]) (le-ltb 12 (length l) h)

-- every bound that is large enough gives the same
enough : (n m : ℕ) (w : Words) (l : List ℕ) → length l ≤ n → length l ≤ m → hash_blocks n w l ≡ hash_blocks m w l
enough zero m w l h k = rest_last zero w l (omega arith) ∙ sym (rest_last m w l (omega arith))
enough (suc n) zero w l h k = rest_last (suc n) w l (omega arith) ∙ sym (rest_last zero w l (omega arith))
enough (suc n) (suc m) w l h k =
    elim (dec_lt 12 (length l)) [
      | yes p ↦
          rest_more n w l p
          ∙ enough n m (mix (added w l)) (drop 12 l) (simp length-drop (omega arith)) (simp length-drop (omega arith))
          ∙ sym (rest_more m w l p)
      | no p ↦ rest_last (suc n) w l (omega arith) ∙ sym (rest_last (suc m) w l (omega arith))
    ]

without_zero : (n : ℕ) (w : Words) (t : List ℕ) → 12 ≤ length t
    → hash_blocks n (mix (added w (t ++ 0 ∷ []))) (drop 12 (t ++ 0 ∷ [])) ≡ hash_blocks n (mix (added w t)) (drop 12 t ++ 0 ∷ [])
without_zero n w t h = rw (added_zero, drop-append-le 12 t (0 ∷ []) h)

-- one turn
pub block_step : (w : Words) (t : List ℕ) → 12 ≤ length t
    → hash_rest (mix (added w t)) (drop 12 t ++ 0 ∷ []) ≡ hash_rest w (t ++ 0 ∷ [])
unfolding hash_rest
block_step w t h =
    let n : ℕ = length t in
    let k : length (drop 12 t ++ 0 ∷ []) ≤ n = simp (length-append, length-drop) (omega arith) in
    sym
    (enough (length (t ++ 0 ∷ [])) (suc n) w (t ++ 0 ∷ []) (omega arith) (simp length-append (omega arith))
    ∙ rest_more n w (t ++ 0 ∷ []) (simp length-append (omega arith))
    ∙ without_zero n w t h
    ∙ enough n (length (drop 12 t ++ 0 ∷ [])) (mix (added w t)) (drop 12 t ++ 0 ∷ []) k (omega arith))

-- the end
pub last_block : (w : Words) (t : List ℕ) → length t < 12 → final (added w t) ≡ hash_rest w (t ++ 0 ∷ [])
unfolding hash_rest
last_block w t h = sym (rest_last (length (t ++ 0 ∷ [])) w (t ++ 0 ∷ []) (simp length-append (omega arith)) ∙ ap final (added_zero w t))

-- the words and the bytes that the hash of a name begins with
begin : (l : List ℕ) (start : ℕ) → 0 < length l → hashlittle l start ≡ hash_rest (initial (length l) start) l
unfolding hashlittle
begin [] start h = omega arith
begin (x ∷ l) start h = refl

pub name_begin : (name : List ℕ) (start : ℕ) → name_hash name start ≡ hash_rest (initial (length name + 1) start) (name ++ 0 ∷ [])
unfolding name_hash
name_begin name start = begin (name ++ 0 ∷ []) start (simp length-append (omega arith)) ∙ rw length-append
