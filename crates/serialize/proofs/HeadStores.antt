-- Head and rows stored word by word, and a run of zeros. Assumes nothing.
use Rattle.std.proofs.Common.{◌≡◌, ℕ, suc, ◌+◌, ◌-◌, ◌*◌, ◌%◌, ◌<◌, ◌≤◌, cond, eqb, List, [], ◌∷◌, ◌++◌, length, get_or, sym, refl, ap, ◌∙◌}
use Rattle.std.proofs.Common.{append_assoc, take, drop, drop-drop, ap₂, arith, length-append}
use Rattle.std.proofs.lemmas.List.Edits.{sets-eq}
use borrow.Rule.Slice.PartMut.{put_mid}
use lib.Seq.{sets}
use Rattle.image.specs.Bytes.{le32}
use Rattle.image.specs.Image.{head_bytes}
use Rattle.image.proofs.Words.{length_le32}
use Rattle.image.proofs.Stores.{sets_then}
use Rattle.serialize.specs.Steps.Written.{rows_from}

-- a word's bytes are those of its low 32 bits
pub le32_low : (w : ℕ) → le32 (w % 4294967296) ≡ le32 w
unfolding le32
le32_low w = four _ _ _ _ _ _ _ _ (omega arith) (omega arith) (omega arith) (omega arith)
  where
    four : (p q r s a b c d : ℕ) → p ≡ a → q ≡ b → r ≡ c → s ≡ d → ◌≡◌ {A = List ℕ} (p ∷ q ∷ r ∷ s ∷ []) (a ∷ b ∷ c ∷ d ∷ [])
    four p q r s a b c d e f g h = cc

-- six words in a row
pub head_stored : (b : List ℕ) (size flag back at : ℕ) {b1 b2 b3 b4 b5 b6 : List ℕ}
    → b1 ≡ sets b 0 (le32 0x42445143) → b2 ≡ sets b1 4 (le32 size) → b3 ≡ sets b2 8 (le32 flag) → b4 ≡ sets b3 12 (le32 0x62445371)
    → b5 ≡ sets b4 16 (le32 back) → b6 ≡ sets b5 20 (le32 at) → b6 ≡ sets b 0 (head_bytes size flag back at)
unfolding head_bytes le32
head_stored b size flag back at p q r s t u =
    u
    ∙ ap (λ (l : List ℕ). sets l 20 (le32 at))
    (t
    ∙ ap (λ (l : List ℕ). sets l 16 (le32 back))
    (s
    ∙ ap (λ (l : List ℕ). sets l 12 (le32 0x62445371))
    (r ∙ ap (λ (l : List ℕ). sets l 8 (le32 flag)) (q ∙ ap (λ (l : List ℕ). sets l 4 (le32 size)) p))))

-- ---- rows

rows_suc : (counts : List ℕ) (o t m : ℕ)
    → rows_from counts o t (suc m)
    ≡ le32 (cond (eqb (get_or counts t 0) 0) 0 o) ++ le32 (2 * get_or counts t 0) ++ rows_from counts (o + 16 * get_or counts t 0) (suc t) m
unfolding rows_from
rows_suc counts o t m = refl

rows_step_at : (counts b b1 b2 x : List ℕ) (o t n r s : ℕ) → t < n
    → r ≡ cond (eqb (get_or counts t 0) 0) 0 o % 4294967296 → s ≡ (2 * get_or counts t 0) % 4294967296
    → b1 ≡ sets b (24 + 8 * t) (le32 r) → b2 ≡ sets b1 (28 + 8 * t) (le32 s)
    → sets b (24 + 8 * t) (rows_from counts o t (n - t)) ≡ x
    → sets b2 (24 + 8 * (t + 1)) (rows_from counts (o + 16 * get_or counts t 0) (t + 1) (n - (t + 1))) ≡ x
rows_step_at counts b b1 b2 x o t n r s h er es p q inv =
    let row = cond (eqb (get_or counts t 0) 0) 0 o in
    let two = 2 * get_or counts t 0 in
    let more = rows_from counts (o + 16 * get_or counts t 0) (suc t) (n - (t + 1)) in
    let lr : le32 r ≡ le32 row = ap le32 er ∙ le32_low row in
    let ls : le32 s ≡ le32 two = ap le32 es ∙ le32_low two in
    let m : n - t ≡ suc (n - (t + 1)) = omega arith in
    let st : suc t ≡ t + 1 = omega arith in
    let at : 28 + 8 * t ≡ 24 + 8 * t + length (le32 row) = omega (arith, length_le32 row) in
    let len : length (le32 row ++ le32 two) ≡ 8 =
    length-append (le32 row) (le32 two) ∙ ap₂ ◌+◌ (length_le32 row) (length_le32 two) in
    let end : 24 + 8 * (t + 1) ≡ 24 + 8 * t + length (le32 row ++ le32 two) = omega arith in
    let stored : b2 ≡ sets b (24 + 8 * t) (le32 row ++ le32 two) =
    q ∙ ap₂ (λ (l : List ℕ) (v : List ℕ). sets l (28 + 8 * t) v) (p ∙ ap (λ (v : List ℕ). sets b (24 + 8 * t) v) lr) ls
    ∙ sets_then (le32 row) (le32 two) b (24 + 8 * t) (28 + 8 * t) at in
    ap (λ (k : ℕ). sets b2 (24 + 8 * (t + 1)) (rows_from counts (o + 16 * get_or counts t 0) k (n - (t + 1)))) (sym st)
    ∙ ap (λ (l : List ℕ). sets l (24 + 8 * (t + 1)) more) stored
    ∙ sets_then (le32 row ++ le32 two) more b (24 + 8 * t) (24 + 8 * (t + 1)) end
    ∙ sym (ap (λ (v : List ℕ). sets b (24 + 8 * t) v) (ap (λ (k : ℕ). rows_from counts o t k) m ∙ rows_suc counts o t (n - (t + 1))))
    ∙ inv

-- the same, as code reads the count
pub rows_step : (counts b x : List ℕ) (o t n : ℕ) {b1 b2 : List ℕ} {r s count row : ℕ} → t < n → count ≡ get_or counts t 0
    → row ≡ cond (eqb count 0) 0 o → r ≡ row % 4294967296 → s ≡ (2 * count) % 4294967296
    → b1 ≡ sets b (24 + 8 * t) (le32 r) → b2 ≡ sets b1 (28 + 8 * t) (le32 s)
    → sets b (24 + 8 * t) (rows_from counts o t (n - t)) ≡ x
    → sets b2 (24 + 8 * (t + 1)) (rows_from counts (o + 16 * count) (t + 1) (n - (t + 1))) ≡ x
rows_step counts b x o t n {b1} {b2} {r} {s} {count} {row} h e f er es p q inv =
    ap (λ (k : ℕ). sets b2 (24 + 8 * (t + 1)) (rows_from counts (o + 16 * k) (t + 1) (n - (t + 1)))) e
    ∙ rows_step_at counts b b1 b2 x o t n r s h
    (er ∙ ap (λ (k : ℕ). k % 4294967296) (f ∙ ap (λ (k : ℕ). cond (eqb k 0) 0 o) e))
    (es ∙ ap (λ (k : ℕ). (2 * k) % 4294967296) e) p q inv

pub rows_end : (counts b x : List ℕ) (o t i : ℕ) → sets b i (rows_from counts o t 0) ≡ x → b ≡ x
unfolding rows_from
rows_end counts b x o t i p = p

-- ---- a part

-- a part of a buffer, where something else of its length stands now
pub part_stored : (a k : ℕ) (xs ys zs : List ℕ) → a + k ≤ length xs → length zs ≡ k → ys ≡ zs → put_mid a k xs ys ≡ sets xs a zs
part_stored a k xs ys zs h l e =
    ap (λ (r : List ℕ). take a xs ++ (r ++ drop k (drop a xs))) e
    ∙ ap (λ (r : List ℕ). take a xs ++ (zs ++ r)) (drop-drop k a xs ∙ ap (λ (n : ℕ). drop (a + n) xs) (sym l))
    ∙ sym (rw append_assoc at (sets-eq zs xs a (omega arith)))
