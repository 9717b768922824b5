-- The walk that is printed, told by an image's steps and by the accepted puts; both agree, on the image of every input.
use Rattle.std.specs.Prelude.{ℕ, zero, suc, ◌≤◌, ◌≡◌, List, [], ◌∷◌, length, take, drop}
use Rattle.std.proofs.Math.Option.{Option, none, some}
use Rattle.image.specs.declared.Mode.TheVariants.{Twoway}
use Rattle.image.specs.Image.{Entry, head_size, image}
use Rattle.reader.specs.IdWalk.{Step, item, done, step}
use Rattle.lookup_laws.specs.Answer.{of_id, last_name}
use Rattle.writer.specs.Put.{entry_of}
use Rattle.lists.specs.Calls.{size_of}
use Rattle.catalogue.specs.Left.{puts_of}

-- the walk as id and name: what the first m steps give of a walk that stands before id n, until it ends
abbrev pub item_by : List ℕ → Step → List Entry → List Entry
item_by img (item id s l next) rest = entry_of (take l (drop s img)) id ∷ rest
item_by img done rest = []

unfoldable pub items : List ℕ → ℕ → ℕ → List Entry
items img n zero = []
items img n (suc m) = item_by img (step img n) (items img (suc n) m)

-- the same by the puts: each id from n on with the name of its last put, up to the first id that none has
abbrev pub named_by : ℕ → Option (List ℕ) → List Entry → List Entry
named_by n (some name) rest = entry_of name n ∷ rest
named_by n none rest = []

unfoldable pub items_of : List Entry → ℕ → ℕ → List Entry
items_of es n zero = []
items_of es n (suc m) = named_by n (last_name (of_id n es)) (items_of es (suc n) m)

-- the lines `0 A`, `3 B`, `0 C`
abbrev pub example : List ℕ
example = 48 ∷ 32 ∷ 65 ∷ 10 ∷ 51 ∷ 32 ∷ 66 ∷ 10 ∷ 48 ∷ 32 ∷ 67 ∷ 10 ∷ []

-- the lines `0 A`, `1 A`, `2 B`
abbrev pub repeated_lines : List ℕ
repeated_lines = 48 ∷ 32 ∷ 65 ∷ 10 ∷ 49 ∷ 32 ∷ 65 ∷ 10 ∷ 50 ∷ 32 ∷ 66 ∷ 10 ∷ []

pub record Demonstration : Type 0 where
  -- the walk of an input's image, however many steps are taken
  pub walk : (n : ℕ) (input : List ℕ) (m : ℕ) → head_size ≤ n
      → items (image Twoway (puts_of n input)) 0 m ≡ items_of (puts_of n input) 0 m
  -- 02 (viii): it begins without the repeats mode, so the second line of `0 A`, `1 A`, `2 B` is skipped
  pub repeated_puts : puts_of 65536 repeated_lines ≡ entry_of (65 ∷ []) 0 ∷ entry_of (66 ∷ []) 2 ∷ []
  -- from the example it prints the lines `3 2166` and `0 C`: its entries, its size, and the walk, which ends at the
  -- second step
  pub example_entries : length (puts_of 65536 example) ≡ 3
  pub example_size : size_of Twoway (puts_of 65536 example) ≡ 2166
  pub example_walk : (m : ℕ)
      → items (image Twoway (puts_of 65536 example)) 0 (suc (suc m)) ≡ entry_of (67 ∷ []) 0 ∷ []
