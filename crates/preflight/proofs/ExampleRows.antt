-- The worked examples hold: the answers are computed from the puts. Assumes nothing.
use Prim.Native.Nat.{◌≤◌}
use mathlib.Core.Path.{◌≡◌, refl, ◌∙◌}
use mathlib.Core.Bool.{Bool, true, false, cond}
use mathlib.Core.List.{List, [], ◌∷◌}
use lib.Dec.{ltb, leb}
use borrow.Author.Tests.{ltb-true, leb-true}
use Rattle.jhash.specs.Word.{word}
use Rattle.image.specs.Bytes.{filter, same, cat, le32}
use Rattle.image.specs.Image.{Entry, image_size, entries_size, back_size, image}
use Rattle.image.specs.Zero.{has_zero}
use Rattle.image.specs.declared.Mode.TheVariants.{Twoway}
use Rattle.image.proofs.AllOfList.{All, all_map}
use Rattle.image.proofs.Bools.{false_not_true}
use Rattle.lookup_laws.specs.Answer.{of_id}
use Rattle.canonical.specs.Steps.Made.{Made, Storable}
use Rattle.sheet.specs.Format.{count_at, count_bytes, ids, id_bytes, section_bytes, sheet_bytes}
use Rattle.sheet.specs.SheetReading.{section_at, sections, read_sheet, read_lists}
use Rattle.preflight.specs.Ids.{occurs, passing, first_place}
use Rattle.preflight.specs.Exchanges.{first_shared, some_kept, first_taken}
use Rattle.preflight.specs.OnSheet.{off_sheet}
use Rattle.preflight.specs.Verdicts.{of_round}
use Rattle.preflight.specs.Theorems.Theorem.{by_puts}
use Rattle.preflight.specs.Examples.Rows.{PreflightRow, RowAnswered, changed_rows, exchanged_rows, round_rows, sheet_rows}
use Rattle.preflight.proofs.Images.{by_puts_lem}

-- what is computed of puts: their names have no zero byte, their ids and the size of their image are words
storable : Entry → Bool
storable e = cond (has_zero e.name) false (ltb e.id 4294967296)

all_storable : List Entry → Bool
all_storable [] = true
all_storable (e ∷ es) = cond (storable e) (all_storable es) false

abbrev imaged : List Entry → Bool
imaged puts = cond (leb (image_size Twoway puts) 4294967295) (all_storable puts) false

abbrev Computed : PreflightRow → Type 0
Computed r =
    (imaged r.old ≡ true) × (imaged r.new ≡ true)
    × (by_puts r.old r.new r.sheet r.round r.accepted ≡ r.answer)

both : (s t : Bool) → cond s t false ≡ true → (s ≡ true) × (t ≡ true)
both true t h = (refl, h)
both false t h = absurd (false_not_true h)

each_storable : (puts : List Entry) → all_storable puts ≡ true → All Storable puts
unfolding all_storable storable
each_storable [] h = tt
each_storable (e ∷ es) h =
    let t = both (storable e) (all_storable es) h in
    (by_name (has_zero e.name) refl t.0, each_storable es t.1)
  where
    by_name : (z : Bool) → has_zero e.name ≡ z → cond z false (ltb e.id 4294967296) ≡ true → Storable e
    by_name true f q = absurd (false_not_true q)
    by_name false f q = record { free = f; id_word = ltb-true e.id 4294967296 q }

size_fits : (puts : List Entry) → imaged puts ≡ true → image_size Twoway puts ≤ 4294967295
size_fits puts h = leb-true _ _ (both (leb (image_size Twoway puts) 4294967295) (all_storable puts) h).0

puts_storable : (puts : List Entry) → imaged puts ≡ true → All Storable puts
puts_storable puts h = each_storable puts (both (leb (image_size Twoway puts) 4294967295) (all_storable puts) h).1

abbrev made : (puts : List Entry) → imaged puts ≡ true → Made (image Twoway puts)
made puts h = record { mode = Twoway; puts = puts; each = puts_storable puts h; fits = size_fits puts h; is = refl }

holds : (r : PreflightRow) → Computed r → RowAnswered r
holds r (old-made, new-made, answered) =
    by_puts_lem (image Twoway r.old) (image Twoway r.new) (made r.old old-made) (made r.new new-made) refl refl r.sheet r.round r.accepted
    ∙ answered

changed_computed : All Computed changed_rows
unfolding entries_size back_size has_zero filter same cat le32 word of_id all_storable storable count_at count_bytes ids id_bytes section_bytes
    sheet_bytes section_at sections read_sheet read_lists occurs passing first_place first_shared some_kept first_taken off_sheet of_round
changed_computed = (
  (refl, refl, refl),
  ((refl, refl, refl), ((refl, refl, refl), ((refl, refl, refl), ((refl, refl, refl), ((refl, refl, refl), ((refl, refl, refl), ((refl, refl, refl), tt))))))),
)

pub changed_hold : All RowAnswered changed_rows
changed_hold = all_map holds changed_rows changed_computed

exchanged_computed : All Computed exchanged_rows
unfolding entries_size back_size has_zero filter same cat le32 word of_id all_storable storable count_at count_bytes ids id_bytes section_bytes
    sheet_bytes section_at sections read_sheet read_lists occurs passing first_place first_shared some_kept first_taken off_sheet of_round
exchanged_computed = (
  (refl, refl, refl),
  ((refl, refl, refl), ((refl, refl, refl), ((refl, refl, refl), ((refl, refl, refl), ((refl, refl, refl), ((refl, refl, refl), ((refl, refl, refl), tt))))))),
)

pub exchanged_hold : All RowAnswered exchanged_rows
exchanged_hold = all_map holds exchanged_rows exchanged_computed

round_computed : All Computed round_rows
unfolding entries_size back_size has_zero filter same cat le32 word of_id all_storable storable count_at count_bytes ids id_bytes section_bytes
    sheet_bytes section_at sections read_sheet read_lists occurs passing first_place first_shared some_kept first_taken off_sheet of_round
round_computed = ((refl, refl, refl), ((refl, refl, refl), ((refl, refl, refl), ((refl, refl, refl), ((refl, refl, refl), ((refl, refl, refl), tt))))))

pub round_hold : All RowAnswered round_rows
round_hold = all_map holds round_rows round_computed

sheet_computed : All Computed sheet_rows
unfolding entries_size back_size has_zero filter same cat le32 word of_id all_storable storable count_at count_bytes ids id_bytes section_bytes
    sheet_bytes section_at sections read_sheet read_lists occurs passing first_place first_shared some_kept first_taken off_sheet of_round
sheet_computed = ((refl, refl, refl), ((refl, refl, refl), ((refl, refl, refl), ((refl, refl, refl), ((refl, refl, refl), tt)))))

pub sheet_hold : All RowAnswered sheet_rows
sheet_hold = all_map holds sheet_rows sheet_computed
