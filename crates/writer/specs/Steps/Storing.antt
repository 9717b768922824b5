-- What the stores of an accepted put ask. No rule stands here: the checks of a put have shown it.
use Rattle.std.specs.Prelude.{ℕ, ◌+◌, ◌^◌, ◌≤◌, ◌<◌, ◌≡◌, List, length, get_or}
use Rattle.jhash.specs.NameHash.{hash_of}
use Rattle.image.specs.Tables.{table_of}
use Rattle.image.specs.Image.{Entry}
use Rattle.writer.specs.State.{State, finished_size}
use Rattle.writer.specs.Put.{writer_after_put}

-- an entry whose name has n bytes fits into the buffer from `at` on
pub record StorePre (at n : ℕ) (buf : List ℕ) : Type 0 where
  pub inside : at + (n + 9) ≤ length buf
  pub short : n < 4294967295

-- entries that end at `end`, and a name of n bytes: the finished size is below 2^64
pub record SizeWithPre (end n : ℕ) : Type 0 where
  pub low : end < 2 ^ 63
  pub short : n < 4294967295

-- what an accepted put stores has room: its count, its entry and its record
pub record AppendPre (s : State) (e : Entry) (h : ℕ) : Type 0 where
  pub hash : h ≡ hash_of e.name
  pub count : get_or s.counts (table_of h) 0 < 4294967295
  pub entry : s.writer.end + (length e.name + 9) ≤ length s.buffer
  pub short : length e.name < 4294967295
  pub size : finished_size (writer_after_put s.writer (length e.name) e.id) ≤ 4294967295
