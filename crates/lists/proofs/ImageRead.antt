-- What the reader answers on an image of entries, two-way or one-way: 01, "Whole lists (demand 3)".
use Prim.Native.Nat.{ℕ}
use mathlib.Core.Path.{◌≡◌}
use mathlib.Core.List.{List}
use mathlib.Core.Option.{Option, none}
use Rattle.image.specs.declared.Mode.{Mode}
use Rattle.image.specs.declared.Mode.TheVariants.{Twoway, Oneway}
use Rattle.image.specs.Image.{Entry}
use Rattle.consistency.specs.Home.{home}
use Rattle.lookup_laws.specs.Answer.{name_given, of_id, last_name, is_named}
use Rattle.lists.specs.Demand3.{NamesAnswered}

-- an id gives the name of its last entry; in a one-way image, none
abbrev pub named_in : Mode → List Entry → ℕ → Option (List ℕ)
named_in Twoway es id = last_name (of_id id es)
named_in Oneway es id = none

pub record Read (mode : Mode) (es : List Entry) (img : List ℕ) : Type 0 where
  pub names : NamesAnswered es img
  pub id_gives : (id : ℕ) → name_given img id ≡ named_in mode es id
  pub id_home : (id : ℕ) → home img id ≡ is_named (named_in mode es id)
