-- The exchange that `moved` misses (`specs/Examples/MissedExchange`): the answers are computed from the puts. Assumes nothing.
use Prim.Native.Nat.{ℕ}
use native.Mathlib.Omega.{arith}
use mathlib.Core.Path.{◌≡◌, refl, sym, ap, ◌∙◌}
use mathlib.Core.List.{List, [], ◌∷◌}
use mathlib.Core.Option.{none, some}
use lib.Dec.{lit≤, lit<}
use Rattle.image.specs.Bytes.{filter, same}
use Rattle.image.specs.Image.{Entry, entries_size, back_size}
use Rattle.image.specs.Zero.{has_zero}
use Rattle.image.specs.declared.Mode.TheVariants.{Twoway}
use Rattle.reader.specs.Lookup.{Lookup, found, nothing, lookup}
use Rattle.lookup_laws.specs.Answer.{found_id, name_given, of_name, of_id, first_id, last_name}
use Rattle.changes.specs.Moves.{other_id, moved_name, moved}
use borrow.Author.Tests.{eq-eqb}
use Rattle.canonical.specs.Steps.Made.{Made}
use Rattle.canonical.proofs.ReadBack.{made_mode}
use Rattle.one_to_one.specs.OneToOne.{first_failure}
use Rattle.one_to_one.specs.Examples.Rows.{A, B}
use Rattle.one_to_one.specs.Examples.MissedExchange.{old, new, ExchangeMissed}
use Rattle.one_to_one.proofs.Pairs.{finds_first, gives_last, by_puts_lem}

-- ---- the puts of both images

abbrev old_puts : List Entry
old_puts = A 0 ∷ B 1 ∷ []

abbrev new_puts : List Entry
new_puts = A 0 ∷ B 1 ∷ B 0 ∷ A 1 ∷ []

made_old : Made old
unfolding entries_size back_size has_zero
made_old = record {
  mode = Twoway;
  puts = old_puts;
  each = (record { free = refl; id_word = lit< tt }, (record { free = refl; id_word = lit< tt }, tt));
  fits = lit≤ tt;
  is = refl;
}

made_new : Made new
unfolding entries_size back_size has_zero
made_new = record {
  mode = Twoway;
  puts = new_puts;
  each = (
    record { free = refl; id_word = lit< tt },
    (record { free = refl; id_word = lit< tt }, (record { free = refl; id_word = lit< tt }, (record { free = refl; id_word = lit< tt }, tt))),
  );
  fits = lit≤ tt;
  is = refl;
}

-- ---- what they answer

old_gives : (id : ℕ) → name_given old id ≡ last_name (of_id id old_puts)
unfolding made_old
old_gives id = gives_last old made_old (made_mode old made_old) id

new_gives : (id : ℕ) → name_given new id ≡ last_name (of_id id new_puts)
unfolding made_new
new_gives id = gives_last new made_new (made_mode new made_new) id

-- a name that finds the id itself has not moved
own_found : (x : Lookup) (id : ℕ) → found_id x ≡ some id → other_id id x ≡ none
own_found (found f) id h = let e : f.id ≡ id = cc in rw (eq-eqb f.id id e)
own_found (nothing reads) id h = refl

not_moved : (id : ℕ) (name : List ℕ) → name_given old id ≡ some name → first_id (of_name name new_puts) ≡ some id → moved old new id ≡ none
unfolding made_new
not_moved id name g f = ap (moved_name new id) g ∙ own_found (lookup new name) id (finds_first new made_new name ∙ f)

pub exchange_missed : ExchangeMissed
unfolding made_new first_failure of_name of_id filter same entries_size
exchange_missed = record {
  exchanged = record {
    first = record { name = (A 0).name; old_name = old_gives 0; new_name = new_gives 1; another = λ e. omega arith };
    second = record { name = (B 0).name; old_name = old_gives 1; new_name = new_gives 0; another = λ e. omega arith };
  };
  first_missed = not_moved 0 (A 0).name (old_gives 0) refl;
  second_missed = not_moved 1 (B 0).name (old_gives 1) refl;
  not_one_to_one = by_puts_lem new made_new;
}
