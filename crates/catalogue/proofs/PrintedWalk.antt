-- The walk of an input's image, and the example. Assumes nothing.
use Prim.Native.Nat.{ℕ, zero, suc, ◌≤◌}
use native.Mathlib.Omega.{arith}
use mathlib.Core.Path.{◌≡◌, refl, sym, ap, ◌∙◌}
use mathlib.Core.List.{List, [], ◌∷◌}
use mathlib.Core.Option.{Option}
use lib.ListN.{length, replicate, length-replicate}
use lib.Dec.{lit≤}
use Rattle.image.specs.Bytes.{filter, same}
use Rattle.image.specs.declared.Mode.TheVariants.{Twoway}
use Rattle.image.specs.Zero.{has_zero}
use Rattle.image.specs.Image.{Entry, head_size, back_size, contains_name, image}
use Rattle.reader.specs.Naming.{Naming, place, unnamed, naming}
use Rattle.reader.specs.IdWalk.{step_of, step}
use Rattle.lookup_laws.specs.Answer.{bytes_at, name_given, of_id, last_name}
use Rattle.writer.specs.declared.Repeats.TheVariants.{Off}
use Rattle.writer.specs.Put.{entry_of}
use Rattle.lists.specs.Calls.{Call, put_due, accepted_from, accepted, puts_size, size_of}
use Rattle.lists.proofs.Theorem.{one_list}
use Rattle.catalogue.specs.Lines.{with_byte, lines_of, leading_digits, number_from, parse_line, line_calls, lines_calls, input_calls}
use Rattle.catalogue.specs.Left.{puts_of}
use Rattle.catalogue.specs.Theorems.Printed.{item_by, items, named_by, items_of, example, repeated_lines, Demonstration}

-- one step, by what naming answers
item_named : (img : List ℕ) (n : ℕ) (x : Naming) (rest : List Entry) → item_by img (step_of n x) rest ≡ named_by n (bytes_at img x) rest
item_named img n (place s l) rest = refl
item_named img n unnamed rest = refl

items_by : (img : List ℕ) (es : List Entry) → ((id : ℕ) → name_given img id ≡ last_name (of_id id es)) → (n m : ℕ) → items img n m ≡ items_of es n m
unfolding items items_of step
items_by img es h n zero = refl
items_by img es h n (suc m) =
    item_named img n (naming img n) (items img (suc n) m)
    ∙ ap (λ (x : Option (List ℕ)). named_by n x (items img (suc n) m)) (h n)
    ∙ ap (named_by n (last_name (of_id n es))) (items_by img es h (suc n) m)

-- on the image of a list of calls
module _ (buffer : List ℕ) (cs : List Call) (room : head_size ≤ length buffer) where
  image_named : (id : ℕ) → name_given (image Twoway (accepted Twoway Off (length buffer) cs)) id ≡ last_name (of_id id (accepted Twoway Off (length buffer) cs))
  image_named id =
      let one = one_list Off buffer cs room in
      ap (λ (img : List ℕ). name_given img id) (sym (one.calls.imaged ∙ ap (image Twoway) one.calls.decided))
      ∙ one.ids.id_gives id
      ∙ ap (λ (es : List Entry). last_name (of_id id es)) one.calls.decided

walk : (n : ℕ) (input : List ℕ) (m : ℕ) → head_size ≤ n → items (image Twoway (puts_of n input)) 0 m ≡ items_of (puts_of n input) 0 m
unfolding puts_of
walk n input m h =
    let buffer : List ℕ = replicate n 0 in
    let e : length buffer ≡ n = length-replicate n 0 in
    let room : head_size ≤ length buffer = omega arith in
    let es = accepted Twoway Off n (input_calls input) in
    items_by (image Twoway es) es (rw e at (image_named buffer (input_calls input) room)) 0 m

-- ---- the example, computed of the rules

puts : List Entry
puts = entry_of (65 ∷ []) 0 ∷ entry_of (66 ∷ []) 3 ∷ entry_of (67 ∷ []) 0 ∷ []

example_puts : puts_of 65536 example ≡ puts
unfolding puts puts_of input_calls lines_of with_byte lines_calls line_calls parse_line leading_digits number_from accepted accepted_from put_due has_zero
    contains_name same size_of puts_size back_size
example_puts = refl

repeated_puts : puts_of 65536 repeated_lines ≡ entry_of (65 ∷ []) 0 ∷ entry_of (66 ∷ []) 2 ∷ []
unfolding puts_of input_calls lines_of with_byte lines_calls line_calls parse_line leading_digits number_from accepted accepted_from put_due has_zero
    contains_name same size_of puts_size back_size
repeated_puts = refl

example_size : size_of Twoway puts ≡ 2166
unfolding puts size_of puts_size back_size
example_size = refl

example_walk : (m : ℕ) → items_of puts 0 (suc (suc m)) ≡ entry_of (67 ∷ []) 0 ∷ []
unfolding puts items_of of_id filter
example_walk m = refl

pub demonstration : Demonstration
unfolding puts
demonstration =
    record {
      walk = walk;
      repeated_puts = repeated_puts;
      example_entries = ap length example_puts;
      example_size = ap (size_of Twoway) example_puts ∙ example_size;
      example_walk = λ m. walk 65536 example (suc (suc m)) (lit≤ tt) ∙ ap (λ (es : List Entry). items_of es 0 (suc (suc m))) example_puts ∙ example_walk m;
    }
