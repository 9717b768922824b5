-- What the calls leave as it was: 01, "Writing".
use Rattle.std.specs.Prelude.{ℕ, ◌+◌, ◌<◌, ◌≡◌, get_or, take, drop}
use Rattle.image.specs.Image.{Entry, entry_size}
use Rattle.writer.specs.State.{State}
use Rattle.writer.specs.Put.{after_put}
use Rattle.writer.specs.Close.{entry_area, close_refusal, closed_size, after_close}

pub record Kept : Type 0 where
  -- whatever put answers, the head and every earlier entry stay as they were, and so do the bytes behind the new one
  pub put_keeps : (s : State) (e : Entry)
      → take s.writer.end (after_put s e).buffer ≡ take s.writer.end s.buffer
  pub put_keeps_behind : (s : State) (e : Entry)
      → drop (s.writer.end + entry_size e) (after_put s e).buffer ≡ drop (s.writer.end + entry_size e) s.buffer
  -- an accepted close, in a buffer of bytes, leaves the entries as they were
  pub close_keeps : (s : State) → ((i : ℕ) → get_or s.buffer i 0 < 256) → close_refusal s ≡ 0
      → entry_area (after_close s) ≡ entry_area s
  -- and so it does the bytes from the image's size on
  pub close_keeps_behind : (s : State) → ((i : ℕ) → get_or s.buffer i 0 < 256) → close_refusal s ≡ 0
      → drop (closed_size s) (after_close s).buffer ≡ drop (closed_size s) s.buffer
