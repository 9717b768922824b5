-- Values of the hash that the checker computes: those that lookup3.c itself publishes, names with their zero byte around
-- the limits of a block, and the names of examples in the crates above. All values were also given by a C build of
-- lookup3. Assumes nothing.
use Rattle.std.proofs.Common.{◌≡◌, ℕ, List, [], ◌∷◌, ◌++◌, map, take, refl}
use Rattle.jhash.specs.Lookup3.{hashlittle}
use Rattle.jhash.specs.NameHash.{hash_of}

-- bytes, start value and hash
pub record Row : Type 0 where
  pub bytes : List ℕ
  pub start : ℕ
  pub value : ℕ

row : List ℕ → ℕ → ℕ → Row
row bytes start value = record { bytes = bytes; start = start; value = value }

-- a name and its zero byte
named : List ℕ → List ℕ
named name = name ++ 0 ∷ []

-- "Four score and seven years ago"
four_score : List ℕ
four_score =
    70 ∷ 111 ∷ 117 ∷ 114 ∷ 32 ∷ 115 ∷ 99 ∷ 111 ∷ 114 ∷ 101 ∷ 32 ∷ 97 ∷ 110 ∷ 100 ∷ 32 ∷ 115 ∷ 101 ∷ 118 ∷ 101 ∷ 110 ∷ 32 ∷ 121 ∷ 101 ∷ 97 ∷ 114 ∷ 115
    ∷ 32 ∷ 97 ∷ 103 ∷ 111 ∷ []

-- the name of n letters: a, b, c, ..
letters : ℕ → List ℕ
letters n =
    take n
    (97 ∷ 98 ∷ 99 ∷ 100 ∷ 101 ∷ 102 ∷ 103 ∷ 104 ∷ 105 ∷ 106 ∷ 107 ∷ 108 ∷ 109 ∷ 110 ∷ 111 ∷ 112 ∷ 113 ∷ 114 ∷ 115 ∷ 116 ∷ 117
    ∷ 118 ∷ 119 ∷ 120 ∷ 121 ∷ 122 ∷ [])

pub rows : List Row
rows =
    row [] 0 0xdeadbeef
    ∷ row [] 0xdeadbeef 0xbd5b7dde
    ∷ row four_score 0 0x17770551
    ∷ row four_score 1 0xcd628161
    ∷ row (named (letters 0)) 0 0x8ba9414b
    ∷ row (named (letters 1)) 0 0x42b17671
    ∷ row (named (letters 10)) 0 0x74d11313
    ∷ row (named (letters 11)) 0 0xa6e64a17
    ∷ row (named (letters 12)) 0 0xe5a71b42
    ∷ row (named (letters 13)) 0 0x8675b9c8
    ∷ row (named (letters 23)) 0 0xee2c37e3
    ∷ row (named (letters 24)) 0 0xaa8556dd
    ∷ row (named (letters 25)) 0 0xdbb586ee
    ∷ row (named (65 ∷ [])) 0 0x89284101
    ∷ row (named (73 ∷ [])) 0 0xcae4bcb3
    ∷ row (named (81 ∷ [])) 0 0x27d3a0b3
    ∷ row (named (letters 11)) 0xffffffff 0x5f61edf8
    ∷ row (named (letters 12)) 0xffffffff 0xc7594d0f
    ∷ row (named (letters 24)) 0xffffffff 0x197b8c64
    ∷ row (named (0 ∷ 255 ∷ 0 ∷ 128 ∷ 127 ∷ 0 ∷ [])) 1 0x5f98c903
    ∷ []

-- every row holds
pub rows_hold : map (λ (r : Row). hashlittle r.bytes r.start) rows ≡ map (λ (r : Row). r.value) rows
unfolding hashlittle rows row named four_score letters
rows_hold = refl

-- ---- the hash of images, for the names of examples: the empty one, A, I and Q

pub hash_empty : hash_of [] ≡ 0x8ba9414b
unfolding hash_of
hash_empty = refl

pub hash_A : hash_of (65 ∷ []) ≡ 0x89284101
unfolding hash_of
hash_A = refl

pub hash_I : hash_of (73 ∷ []) ≡ 0xcae4bcb3
unfolding hash_of
hash_I = refl

pub hash_Q : hash_of (81 ∷ []) ≡ 0x27d3a0b3
unfolding hash_of
hash_Q = refl
