-- The states of a seed and the names that they give: 02 (xiii).
use Rattle.std.specs.Prelude.{ℕ, zero, suc, ◌+◌, ◌*◌, ◌/◌, ◌%◌, ◌^◌, cond, List, [], ◌∷◌, ltb}
use Rattle.image.specs.Image.{Entry}

-- "each step takes s to 1664525 × s + 1013904223 modulo 2^32"
abbrev pub next_state : ℕ → ℕ
next_state s = (1664525 * s + 1013904223) % 2 ^ 32

-- the state of a seed after n steps
unfoldable pub state_after : ℕ → ℕ → ℕ
state_after seed zero = seed
state_after seed (suc n) = next_state (state_after seed n)

-- an uppercase hexadecimal digit: 0 to 9, then A to F
abbrev pub hex_digit : ℕ → ℕ
hex_digit d = cond (ltb d 10) (48 + d) (55 + d)

-- "the name P followed by eight uppercase hexadecimal digits" of a state, the most significant first
unfoldable pub state_name : ℕ → List ℕ
state_name s =
    80
    ∷ hex_digit (s / 268435456 % 16)
    ∷ hex_digit (s / 16777216 % 16)
    ∷ hex_digit (s / 1048576 % 16)
    ∷ hex_digit (s / 65536 % 16)
    ∷ hex_digit (s / 4096 % 16)
    ∷ hex_digit (s / 256 % 16)
    ∷ hex_digit (s / 16 % 16)
    ∷ hex_digit (s % 16)
    ∷ []

-- "entry i, from 0, has id i and the name .. of the state after step i + 1"
unfoldable pub load_entry : ℕ → ℕ → Entry
load_entry seed i = record { name = state_name (state_after seed (suc i)); id = i }
