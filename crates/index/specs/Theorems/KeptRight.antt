-- What keeps an index right. A put by the index keeps it right, too, refused or accepted (`PutIndexed`).
use Rattle.std.specs.Prelude.{ℕ, ◌≤◌, ◌<◌, ◌≡◌, List, length, get_or}
use Rattle.image.specs.declared.Mode.{Mode}
use Rattle.image.specs.Image.{head_size}
use Rattle.writer.specs.declared.Repeats.{Repeats}
use Rattle.writer.specs.declared.Repeats.TheVariants.{On}
use Rattle.writer.specs.State.{State, fresh}
use Rattle.writer.specs.Close.{after_close}
use Rattle.lists.specs.Theorems.LongerBuffer.{moved_to, Longer}
use Rattle.index.specs.Index.{Right}

-- the numbers of a buffer are bytes
abbrev pub Bytes : State → Type 0
Bytes s = (i : ℕ) → get_or s.buffer i 0 < 256

pub record KeptRight : Type 0 where
  -- cleared slots are a right index of a fresh record
  pub fresh_right : (mode : Mode) (repeats : Repeats) (buffer words : List ℕ) → head_size ≤ length buffer
      → ((i : ℕ) → get_or words i 0 ≡ 0) → Right (fresh mode repeats buffer) words
  -- with repeats on, any words are a right index of it
  pub fresh_any : (mode : Mode) (buffer words : List ℕ) → head_size ≤ length buffer → Right (fresh mode On buffer) words
  -- a close keeps it right
  pub close_right : (s : State) (words : List ℕ) → Bytes s
      → Right s words → Right (after_close s) words
  -- so does a longer buffer with the same entries, whose length the record takes
  pub longer_right : (s : State) (words longer : List ℕ) → Bytes s → Longer longer s
      → Right s words → Right (moved_to longer s) words
