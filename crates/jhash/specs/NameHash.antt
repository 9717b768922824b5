-- The hash of a name, and when it is refused (01, "Name hash" and "When a call is refused"). Assumes nothing.
use Rattle.std.specs.Prelude.{ℕ, cond, List, [], ◌∷◌, ◌++◌, length, nat_lt}
use Rattle.jhash.specs.Outcome.{Outcome, value, refusal}
use Rattle.jhash.specs.Lookup3.{hashlittle}
use Rattle.jhash.specs.Refusals as refused

-- The hash of a name with a start value: hashlittle over the name and one zero byte.
unfoldable pub name_hash : List ℕ → ℕ → ℕ
unfolding hashlittle
name_hash name start = hashlittle (name ++ 0 ∷ []) start

-- The hash that images use: start value 0.
unfoldable pub hash_of : List ℕ → ℕ
unfolding name_hash
hash_of name = name_hash name 0

-- The rule: refusal 9 when the name has 4,294,967,295 bytes or more, otherwise its hash.
unfoldable pub hash_outcome : List ℕ → ℕ → Outcome ℕ
hash_outcome name start = cond (nat_lt (length name) 4294967295) (value (name_hash name start))
    (refusal refused.name_too_long)

-- The hash of a name, 0 where it is too long to have one. Names with different values differ.
unfoldable pub hash_or_zero : List ℕ → ℕ
hash_or_zero name = cond (nat_lt (length name) 4294967295) (hash_of name) 0
