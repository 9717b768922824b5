-- What keeps an index right, of what C lends (`kept_right_held` in proofs/IndexCalls).
use Rattle.std.specs.Prelude.{ℕ, ◌≡◌, List, length}
use Rattle.image.specs.Image.{Entry}
use Rattle.writer.specs.Close.{after_close}
use Rattle.lists.specs.Theorems.LongerBuffer.{moved_to, Longer}
use Rattle.writer.specs.CRecord.{CState, state_in, c_state_of}
use Rattle.index.specs.Theorems.KeptRight.{Bytes}
use Rattle.index_c.specs.IndexC.{RightHeld, PutIndexedHeld, IndexedHeld}

-- an index is right that cqdb_index made, where since then only cqdb_put_indexed, cqdb_close and cqdb_grown were called
pub record KeptRightHeld : Type 0 where
  pub made : (h : CState) (words words' : List ℕ) → length h.counts ≡ 256 → IndexedHeld h words 0 words'
      → RightHeld h words'
  pub put : (h h' : CState) (words words' : List ℕ) (e : Entry) (refusal : ℕ)
      → PutIndexedHeld h words e refusal h' words'
      → RightHeld h words → RightHeld h' words'
  pub closed : (h : CState) (words : List ℕ) → Bytes (state_in h)
      → RightHeld h words → RightHeld (c_state_of (after_close (state_in h))) words
  pub longer : (h : CState) (words longer : List ℕ) → Bytes (state_in h) → Longer longer (state_in h)
      → RightHeld h words → RightHeld (c_state_of (moved_to longer (state_in h))) words
