-- What the checks of a put decide. No rule stands here: proofs/ joins it to the rules.
use Rattle.std.specs.Prelude.{ℕ, ◌<◌, ◌≡◌, true, false, List, Option, MatchOption, Result, IfOk}
use Rattle.jhash.specs.declared.refusals.Refusal.{Refusal}
use Rattle.jhash.specs.NameHash.{hash_of}
use Rattle.jhash.specs.Outcome.{refusal_of}
use Rattle.image.specs.Image.{Entry}
use Rattle.writer.specs.State.{State}
use Rattle.writer.specs.Steps.Storing.{AppendPre}
use Rattle.index.specs.Index.{slot_count, first_empty_slot, seeks}
use Rattle.index.specs.Refusals.{refusal_by_slots}

-- an accepted put takes slot k: the name is sought, and k is the first empty slot of its probe sequence
pub record SlotTaken (s : State) (words : List ℕ) (e : Entry) (k : ℕ) : Type 0 where
  pub sought : seeks s ≡ true
  pub inside : k < slot_count words
  pub first : k ≡ first_empty_slot words (hash_of e.name)

-- whatever was lent, an accepted put takes such a slot, or with repeats on none, and what it stores has room
pub record InBounds (s : State) (words : List ℕ) (e : Entry) (h : ℕ) (slot : Option ℕ) : Type 0 where
  pub taken : MatchOption slot (seeks s ≡ false) (SlotTaken s words e)
  pub stores : AppendPre s e h

-- of a put with hash h
pub record Decided (s : State) (words : List ℕ) (e : Entry) (h : ℕ) (d : Result (Option ℕ) Refusal) : Type 0 where
  pub number : refusal_of d ≡ refusal_by_slots s words e
  pub bounds : IfOk d (InBounds s words e h)
