-- Bob Jenkins's `hashlittle` of lookup3.c, over a list of bytes of any length and a start value (01, "Name hash").
-- Words are numbers below 2 ^ 32. Assumes nothing.
use Rattle.std.specs.Prelude.{ℕ, zero, suc, ◌+◌, ◌-◌, ◌*◌, ◌/◌, ◌%◌, ◌^◌, true, false, List, [], ◌∷◌, length, drop}
use Rattle.std.specs.Prelude.{bit_or, bit_xor, nat_lt}
use Rattle.jhash.specs.Word.{word}
use Rattle.jhash.specs.declared.Words.{Words}

-- Sum and difference modulo 2 ^ 32.
abbrev pub add32 : ℕ → ℕ → ℕ
add32 x y = (x + y) % 2 ^ 32

abbrev pub sub32 : ℕ → ℕ → ℕ
sub32 x y = (x + (2 ^ 32 - y)) % 2 ^ 32

-- The word x rotated left by k bits: lookup3's `rot`, two shifts joined.
abbrev pub rotl32 : ℕ → ℕ → ℕ
rotl32 x k = bit_or (x * 2 ^ k % 2 ^ 32) (x / 2 ^ (32 - k))

-- Three words added to a, b and c.
unfoldable pub plus : Words → ℕ → ℕ → ℕ → Words
plus w x y z = record { a = add32 w.a x; b = add32 w.b y; c = add32 w.c z }

-- The first 12 bytes of l, as three little-endian words, added.
unfoldable pub added : Words → List ℕ → Words
unfolding plus word
added w l = plus w (word l 0) (word l 4) (word l 8)

-- A round on (p, q, r) takes q from p and xors p with q rotated by k: this is the new p. It then adds r to q.
abbrev pub mixed : ℕ → ℕ → ℕ → ℕ
mixed p q k = bit_xor (sub32 p q) (rotl32 q k)

-- lookup3's `mix`: rounds on (a, c, b), (b, a, c), (c, b, a), then these again.
unfoldable pub mix : Words → Words
mix w =
    let a₁ : ℕ = mixed w.a w.c 4 in
    let c₁ : ℕ = add32 w.c w.b in
    let b₁ : ℕ = mixed w.b a₁ 6 in
    let a₂ : ℕ = add32 a₁ c₁ in
    let c₂ : ℕ = mixed c₁ b₁ 8 in
    let b₂ : ℕ = add32 b₁ a₂ in
    let a₃ : ℕ = mixed a₂ c₂ 16 in
    let c₃ : ℕ = add32 c₂ b₂ in
    let b₃ : ℕ = mixed b₂ a₃ 19 in
    let a₄ : ℕ = add32 a₃ c₃ in
    let c₄ : ℕ = mixed c₃ b₃ 4 in
    record { a = a₄; b = add32 b₃ a₄; c = c₄ }

-- A finishing step on (p, q) xors p with q, then takes q rotated by k from p.
abbrev pub final_word : ℕ → ℕ → ℕ → ℕ
final_word p q k = sub32 (bit_xor p q) (rotl32 q k)

-- lookup3's `final`: steps on (c, b), (a, c), (b, a), (c, b), (a, c), (b, a), (c, b). The answer is c.
unfoldable pub final : Words → ℕ
final w =
    let c₁ : ℕ = final_word w.c w.b 14 in
    let a₁ : ℕ = final_word w.a c₁ 11 in
    let b₁ : ℕ = final_word w.b a₁ 25 in
    let c₂ : ℕ = final_word c₁ b₁ 16 in
    let a₂ : ℕ = final_word a₁ c₂ 4 in
    let b₂ : ℕ = final_word b₁ a₂ 14 in
    final_word c₂ b₂ 24

-- While more than 12 bytes remain, they are added in blocks of 12, each followed by mixing; the last 1 to 12 are
-- added without mixing, and the words are finished. n bounds the number of blocks.
unfoldable pub hash_blocks : ℕ → Words → List ℕ → ℕ
unfolding added mix final
hash_blocks zero w l = final (added w l)
hash_blocks (suc n) w l =
    elim (nat_lt 12 (length l)) [ true ↦ hash_blocks n (mix (added w l)) (drop 12 l) | false ↦ final (added w l) ]

-- Three equal words.
abbrev pub equal_words : ℕ → Words
equal_words x = record { a = x; b = x; c = x }

-- What each of the three words begins with when n bytes are hashed.
abbrev pub initial_word : ℕ → ℕ → ℕ
initial_word n start = (0xdeadbeef + n + start) % 2 ^ 32

-- The three equal words that hashing n bytes begins with.
unfoldable pub initial : ℕ → ℕ → Words
initial n start = equal_words (initial_word n start)

-- All of it from three words on.
unfoldable pub hash_rest : Words → List ℕ → ℕ
unfolding hash_blocks
hash_rest w l = hash_blocks (length l) w l

-- The hash of a list of bytes. Of no bytes at all it is c as it begins: lookup3 neither mixes nor finishes there.
unfoldable pub hashlittle : List ℕ → ℕ → ℕ
unfolding initial hash_rest
hashlittle [] start = (initial 0 start).c
hashlittle (x ∷ l) start = hash_rest (initial (length (x ∷ l)) start) (x ∷ l)
