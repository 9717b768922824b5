-- What the code's probe answers, by the number that `probe_slots` gives. No rule stands here: proofs/ joins it to the
-- rules.
use Rattle.std.specs.Prelude.{ℕ, ◌+◌, ◌<◌, ◌≡◌, Option, Some, None, Result, Ok, Err}
use Rattle.jhash.specs.declared.refusals.Refusal.{Refusal}
use Rattle.jhash.specs.Refusals.{number_of}
use Rattle.jhash.specs.Refusals as refused

-- slot k of m is the number p of a probe
pub record SlotProbed (m p k : ℕ) : Type 0 where
  pub below : k < m
  pub is : p ≡ k

-- an entry has the name: p is no slot
pub record NameProbed (m p refusal : ℕ) : Type 0 where
  pub is : p ≡ m + 1
  pub number : refusal ≡ refused.repeated

-- an answer of the code, for the number p of a probe of m slots
abbrev pub Probed : ℕ → ℕ → Result (Option ℕ) Refusal → Type 0
Probed m p (Ok None) = p ≡ m
Probed m p (Ok (Some k)) = SlotProbed m p k
Probed m p (Err r) = NameProbed m p (number_of r)
