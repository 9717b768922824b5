-- An entry stored part by part. Assumes nothing.
use Prim.Native.Nat.{ℕ, ◌+◌}
use native.Mathlib.Omega.{arith}
use mathlib.Core.Path.{◌≡◌, ap, ◌∙◌}
use mathlib.Core.List.{List, [], ◌∷◌, ◌++◌}
use lib.ListN.{length, set, length-append}
use lib.Seq.{sets}
use Rattle.image.specs.Bytes.{le32}
use Rattle.image.specs.Image.{entry_bytes}
use Rattle.image.proofs.Words.{length_le32}
use Rattle.image.proofs.Stores.{sets_then}
use Rattle.writer.specs.Put.{entry_of}

pub stored_parts : (name b b1 b2 b3 : List ℕ) (at id : ℕ)
    → b1 ≡ sets b at (le32 id) → b2 ≡ sets b1 (at + 4) (le32 (length name + 1)) → b3 ≡ sets b2 (at + 8) name
    → set b3 (at + 8 + length name) 0 ≡ sets b at (entry_bytes (entry_of name id))
unfolding entry_bytes
stored_parts name b b1 b2 b3 at id p q r =
    let two : b2 ≡ sets b at (le32 id ++ le32 (length name + 1)) =
    q ∙ ap (λ (l : List ℕ). sets l (at + 4) (le32 (length name + 1))) p
    ∙ sets_then (le32 id) (le32 (length name + 1)) b at (at + 4) (omega (arith, length_le32 id)) in
    let len2 : length (le32 id ++ le32 (length name + 1)) ≡ 8 = simp (length-append, length_le32) in
    let three : b3 ≡ sets b at (le32 id ++ le32 (length name + 1) ++ name) =
    r ∙ ap (λ (l : List ℕ). sets l (at + 8) name) two
    ∙ sets_then (le32 id ++ le32 (length name + 1)) name b at (at + 8) (omega arith) in
    let len3 : length (le32 id ++ le32 (length name + 1) ++ name) ≡ 8 + length name =
    length-append (le32 id ++ le32 (length name + 1)) name ∙ ap (λ (k : ℕ). k + length name) len2 in
    ap (λ (l : List ℕ). set l (at + 8 + length name) 0) three
    ∙ sets_then (le32 id ++ le32 (length name + 1) ++ name) (0 ∷ []) b at (at + 8 + length name) (omega arith)
