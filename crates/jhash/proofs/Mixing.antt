-- Mixing, finishing and adding, from what each call gives. Assumes nothing.
use Rattle.std.proofs.Common.{◌≡◌, ℕ, List, refl, ◌∙◌}
use Rattle.jhash.specs.Word.{word}
use Rattle.jhash.specs.Lookup3.{plus, added, mix, final_word, final}
use Rattle.jhash.specs.Steps.Rounds.{mix_round, final_step}
use Rattle.jhash.specs.declared.Words.{Words}

-- six rounds in a row are lookup3's mix
six : (w : Words) → mix_round (mix_round (mix_round (mix_round (mix_round (mix_round w 4) 6) 8) 16) 19) 4 ≡ mix w
unfolding mix_round mix
six w = refl

pub six_rounds : (w : Words) {w₁ w₂ w₃ w₄ w₅ w₆ : Words} → w₁ ≡ mix_round w 4 → w₂ ≡ mix_round w₁ 6 → w₃ ≡ mix_round w₂ 8 → w₄ ≡ mix_round w₃ 16
    → w₅ ≡ mix_round w₄ 19 → w₆ ≡ mix_round w₅ 4 → w₆ ≡ mix w
six_rounds w e₁ e₂ e₃ e₄ e₅ e₆ = cc (six w)

-- seven steps in a row are its final
seven : (w w₆ : Words) → w₆ ≡ final_step (final_step (final_step (final_step (final_step (final_step w 14) 11) 25) 16) 4) 14
    → final_word w₆.c w₆.b 24 ≡ final w
unfolding final_step final
seven w w₆ e = rw e

pub seven_steps : (w : Words) {w₁ w₂ w₃ w₄ w₅ w₆ : Words} {c : ℕ} → w₁ ≡ final_step w 14 → w₂ ≡ final_step w₁ 11 → w₃ ≡ final_step w₂ 25 → w₄
    ≡ final_step w₃ 16
    → w₅ ≡ final_step w₄ 4 → w₆ ≡ final_step w₅ 14 → c ≡ final_word w₆.c w₆.b 24 → c ≡ final w
seven_steps w {w₆ = w₆} e₁ e₂ e₃ e₄ e₅ e₆ e = e ∙ seven w w₆ (cc)

-- three words of a list added are its first 12 bytes added
pub words_added : (w : Words) (l : List ℕ) {r : Words} {x y z : ℕ} → x ≡ word l 0 → y ≡ word l 4 → z ≡ word l 8 → r ≡ plus w x y z
    → r ≡ added w l
unfolding added
words_added w l e₁ e₂ e₃ e = cc
