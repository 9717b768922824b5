-- What a search and a naming make of an entry that stands in an image. Assumes nothing.
use mathlib.Core.Path.{◌≡◌, ap, ◌∙◌}
use mathlib.Core.Bool.{false, cond}
use mathlib.Core.List.{List}
use mathlib.Core.Option.{Option, some}
use Prim.Native.Nat.{ℕ, ◌+◌, ◌-◌, ◌^◌, ◌≤◌, ◌<◌}
use native.Mathlib.Omega.{arith}
use borrow.Author.Tests.{le-ltb, ne_eqb}
use lib.ListN.{length, take, drop}
use Rattle.image.specs.Bytes.{word, same}
use Rattle.image.specs.Image.{Entry, entry_bytes}
use Rattle.image.specs.Stored.{name_at, broken}
use Rattle.reader.specs.Lookup.{pass, hit, probe_entry}
use Rattle.reader.specs.Naming.{naming_at}
use Rattle.image.proofs.At.{At}
use Rattle.image.proofs.EntryAt.{entry_fits, id_word, length_word, name_bytes}
use Rattle.lookup_laws.specs.Answer.{bytes_at}

module _ {img : List ℕ} {o : ℕ} (e : Entry) (a : At img o (entry_bytes e)) (small : length img ≤ 4294967295) where
  name_length : word img (o + 4) ≡ length e.name + 1
  name_length = length_word e a (omega (arith, entry_fits e a))

  whole_entry : broken img o ≡ false
  whole_entry =
      rw (
        name_length,
        le-ltb (length img) (o + 8) (omega (arith, entry_fits e a)),
        ne_eqb (length e.name + 1) 0 (λ z. omega arith),
        le-ltb (length img) (o + 8 + (length e.name + 1 - 1)) (omega (arith, entry_fits e a)),
      )

  name_read : name_at img o ≡ e.name
  name_read =
      let n : length e.name + 1 - 1 ≡ length e.name = omega arith in
      ap (λ (l : ℕ). take (l - 1) (drop (o + 8) img)) name_length
      ∙ ap (λ (l : ℕ). take l (drop (o + 8) img)) n
      ∙ name_bytes e a

  -- a search that comes to the entry, and a naming of its offset
  pub probe_entry_at : (name : List ℕ) → e.id < 2 ^ 32 → probe_entry img name o ≡ cond (same e.name name) (hit (record { id = e.id; offset = o })) pass
  unfolding probe_entry
  probe_entry_at name h = rw (whole_entry, name_read, id_word e a h)

  pub named_entry : 0 < o → bytes_at img (naming_at img o) ≡ some e.name
  unfolding naming_at
  named_entry h =
      let n : length e.name + 1 - 1 ≡ length e.name = omega arith in
      rw (ne_eqb o 0 (λ z. omega arith), whole_entry, name_length, n) (ap {B = Option (List ℕ)} some (name_bytes e a))
