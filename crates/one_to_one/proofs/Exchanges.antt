-- When `moved` finds an exchange of names (`specs/Theorems/Exchanges`). Assumes nothing.
use Prim.Native.Nat.{ℕ, ◌≤◌}
use mathlib.Core.Path.{◌≡◌, refl, sym, ap, ◌∙◌}
use mathlib.Core.Bool.{true}
use mathlib.Core.List.{List, Memᴰ}
use mathlib.Core.Option.{Option, none, some}
use lib.ListN.{length}
use Rattle.jhash.specs.Outcome.{value}
use Rattle.image.specs.Image.{Entry, head_size, has_name}
use Rattle.image.specs.declared.Mode.{Mode}
use Rattle.image.specs.declared.Mode.TheVariants.{Twoway}
use Rattle.image.proofs.AllOfList.{All, all_map}
use Rattle.image.proofs.Equal.{same_self}
use Rattle.reader.specs.Lookup.{Lookup, found, nothing, lookup}
use Rattle.lookup_laws.specs.Answer.{found_id, of_name}
use Rattle.changes.specs.Moves.{other_id, moved_name, moved}
use borrow.Author.Tests.{ne_eqb}
use Rattle.changes.proofs.Theorem.{compared}
use Rattle.writer.specs.declared.Repeats.TheVariants.{Off}
use Rattle.lists.specs.Calls.{Call, WordIds}
use Rattle.lists.specs.Demand3.{accepted_puts, image_of}
use Rattle.lists.proofs.RepeatsOff.{repeats_off}
use Rattle.canonical.specs.Canonical.{mode_in}
use Rattle.canonical.specs.Steps.Made.{Made}
use Rattle.canonical.proofs.ListImages.{list_made, list_puts}
use Rattle.canonical.proofs.ReadBack.{made_puts, canonical_only}
use Rattle.one_to_one.specs.OneToOne.{one_to_one}
use Rattle.one_to_one.specs.Theorems.Theorem.{SameId, OneId}
use Rattle.one_to_one.specs.Theorems.Exchanges.{HasOldName, BothFound, ExchangesFound}
use Rattle.one_to_one.proofs.Answers.{accepted}
use Rattle.one_to_one.proofs.Puts.{each_in, at_one, of_kept, name_first}
use Rattle.one_to_one.proofs.Pairs as pairs

-- ---- where no name of the new image has two ids

other_found : (x : Lookup) (id other : ℕ) → found_id x ≡ some other → ¬ (other ≡ id) → other_id id x ≡ some other
other_found (found f) id other h n =
    let e : f.id ≡ other = cc in
    rw (ne_eqb f.id id (λ q. n (sym e ∙ q))) (ap {B = Option ℕ} some e)
other_found (nothing reads) id other h n = cc

module _ (old new : List ℕ) (m : Made new) (ids : OneId m.puts) where
  moves : (id other : ℕ) → HasOldName old new id other → moved old new id ≡ some other
  moves id other h =
      ap (moved_name new id) h.old_name
      ∙ other_found (lookup new h.name) id other (pairs.given_found new m ids other h.name h.new_name) h.another

  both_found : BothFound old new
  both_found i j x = (moves i j x.first, moves j i x.second)

-- ---- one to one

ids_of : (new : List ℕ) (m : Made new) → one_to_one new ≡ value none → OneId m.puts
ids_of new m one = (pairs.yes_one new m one).0

has_old_name : (old new : List ℕ) (m : Made new) → mode_in new ≡ Twoway → one_to_one new ≡ value none → (id other : ℕ)
    → moved old new id ≡ some other → HasOldName old new id other
has_old_name old new m two one id other h =
    let w = (compared.moved_exactly old new id other).0 h in
    let finds : found_id (lookup new w.name) ≡ some other = ap found_id w.looked_up ∙ ap {B = Option ℕ} some w.has_id in
    record { name = w.name; old_name = w.old_name; new_name = (pairs.inverse new m two one w.name other).0 finds; another = w.another }

-- ---- repeats off: a name has one put, so one id

module _ (mode : Mode) (buffer : List ℕ) (cs : List Call) (room : head_size ≤ length buffer) (word : WordIds mode cs) where
  abbrev new : List ℕ
  new = image_of mode Off buffer cs

  abbrev puts : List Entry
  puts = accepted_puts mode Off buffer cs

  m : Made new
  m = list_made mode Off buffer room cs word

  puts_are : m.puts ≡ puts
  puts_are = sym (made_puts new m) ∙ list_puts mode Off buffer room cs word

  of_named : (P : Entry → Type 0) (name : List ℕ) → All P (of_name name puts) → All (λ (f : Entry). has_name name f ≡ true → P f) puts
  unfolding of_name
  of_named P name h = of_kept (has_name name) P puts h

  off_ids : OneId m.puts
  off_ids = rw puts_are (all_map own puts (each_in puts))
    where
      own : (e : Entry) → Memᴰ e puts → All (SameId e) puts
      own e i =
          let first = name_first puts e i in
          let finds : found_id (lookup new e.name) ≡ some first.0 =
          pairs.finds_first new m e.name ∙ rw puts_are first.1 in
          let single = ((repeats_off.list_off mode buffer cs room word).own_id e.name first.0).0 finds in
          let kept : All (λ (f : Entry). f.id ≡ first.0) (of_name e.name puts) = rw single (refl, tt) in
          let all = of_named (λ (f : Entry). f.id ≡ first.0) e.name kept in
          let mine = at_one (λ (f : Entry). has_name e.name f ≡ true → f.id ≡ first.0) e puts all i (same_self e.name) in
          let others : (f : Entry) → (has_name e.name f ≡ true → f.id ≡ first.0) → SameId e f =
          λ f h q. mine ∙ sym (h (ap (λ (n : List ℕ). has_name n f) q ∙ same_self f.name)) in
          all_map others puts all

pub exchanges : ExchangesFound
exchanges = record {
  one_to_one_lem = λ old new bytes one.
      let m = canonical_only new bytes (accepted new none one) in
      both_found old new m (ids_of new m one);
  one_id = λ old new bytes own ids.
      let m = canonical_only new bytes own in
      both_found old new m (rw (made_puts new m) at ids);
  repeats_off = λ old mode buffer cs room word.
      both_found old (image_of mode Off buffer cs) (m mode buffer cs room word) (off_ids mode buffer cs room word);
  moved_exactly = λ old new bytes two one id other.
      let m = canonical_only new bytes (accepted new none one) in
      (has_old_name old new m two one id other, moves old new m (ids_of new m one) id other);
}
