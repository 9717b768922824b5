-- The worked examples of images that are no catalogue hold. Assumes nothing.
use Prim.Native.Nat.{ℕ, ◌≤◌}
use native.Mathlib.Omega.{arith}
use mathlib.Core.Path.{◌≡◌, refl, sym, ap, ◌∙◌}
use mathlib.Core.Bool.{Bool, true}
use mathlib.Core.List.{List, [], ◌∷◌}
use lib.Dec.{lit≤, lit<}
use Rattle.jhash.specs.Word.{word}
use Rattle.image.specs.Bytes.{filter, same, cat, le32}
use Rattle.image.specs.Image.{Entry, image_size, entries_size, back_size, image}
use Rattle.image.specs.Zero.{has_zero}
use Rattle.image.specs.declared.Mode.{Mode}
use Rattle.image.specs.declared.Mode.TheVariants.{Twoway, Oneway}
use Rattle.image.proofs.AllOfList.{All, all_map}
use Rattle.image.proofs.Bools.{false_not_true}
use Rattle.reader.specs.Naming.{name_given}
use Rattle.lookup_laws.specs.Answer.{of_id}
use Rattle.canonical.specs.Steps.Made.{Made, Storable}
use Rattle.canonical.proofs.ReadBack.{made_mode}
use Rattle.canonical.proofs.ExampleRows.{head_only_rows_hold}
use Rattle.sheet.specs.Format.{count_at, count_bytes, ids, id_bytes, section_bytes, sheet_bytes}
use Rattle.sheet.specs.SheetReading.{section_at, sections, read_sheet, read_lists}
use Rattle.preflight.specs.Ids.{occurs, passing, first_place}
use Rattle.preflight.specs.Exchanges.{first_shared}
use Rattle.preflight.specs.OnSheet.{off_sheet}
use Rattle.preflight.specs.Verdicts.{is_whole, of_round, verdict_first}
use Rattle.preflight.specs.Counts.{compared_in, added_in, unsighted_in}
use Rattle.preflight.specs.Preflight.{answer_of}
use Rattle.preflight.specs.Theorems.Asked.{Whole}
use Rattle.preflight.specs.Examples.Rows.{A, B, listed, this_week, damaged, one_way, no_catalogues, RefusedAsOld, RefusedAsNew, FirstLeaves}
use Rattle.preflight.specs.Answers.Verdict.{Verdict}
use Rattle.preflight.specs.Answers.Verdict.{Yes}
use Rattle.preflight.proofs.Alone.{whole_forth, first_forth}
use Rattle.preflight.proofs.Answers.{first_refused}
use Rattle.preflight.proofs.Images.{first_by_puts}
use Rattle.preflight.proofs.Theorem.{refuted, old_refused, no_bytes}

-- ---- none of them is canonical and two-way
second : List Bool → Bool
second [] = true
second (a ∷ []) = true
second (a ∷ b ∷ l) = b

damaged_not : ¬ Whole damaged
unfolding second
damaged_not w = false_not_true (sym (ap second head_only_rows_hold) ∙ w.is_canonical)

abbrev puts : List Entry
puts = A 1 ∷ B 2 ∷ []

each : All Storable puts
unfolding has_zero
each = (record { free = refl; id_word = lit< tt }, (record { free = refl; id_word = lit< tt }, tt))

fits : (mode : Mode) → image_size mode puts ≤ 4294967295
unfolding entries_size back_size has_zero filter same cat le32 word of_id count_at count_bytes ids id_bytes section_bytes sheet_bytes section_at
    sections read_sheet read_lists occurs passing first_place first_shared off_sheet of_round
fits Twoway = lit≤ tt
fits Oneway = lit≤ tt

abbrev made : (mode : Mode) → Made (image mode puts)
made mode = record { mode = mode; puts = puts; each = each; fits = fits mode; is = refl }

one_way_not : ¬ Whole one_way
one_way_not w =
    let e : Oneway ≡ Twoway = sym (made_mode one_way (made Oneway)) ∙ w.two_way in
    let z : ◌≡◌ {A = ℕ} 0 1 = cc in
    omega arith

none_whole : All (λ (image : List ℕ). ¬ Whole image) no_catalogues
none_whole = (damaged_not, (one_way_not, (no_bytes, tt)))

-- ---- the answers
abbrev round : List ℕ
round = 1 ∷ 2 ∷ []

first_yes : verdict_first this_week listed round ≡ Yes
unfolding entries_size back_size has_zero filter same cat le32 word of_id count_at count_bytes ids id_bytes section_bytes sheet_bytes section_at
    sections read_sheet read_lists occurs passing first_place first_shared off_sheet of_round
first_yes = first_by_puts this_week (made Twoway) refl listed round ∙ refl

pub first_leaves : FirstLeaves
unfolding entries_size back_size has_zero filter same cat le32 word of_id count_at count_bytes ids id_bytes section_bytes sheet_bytes section_at
    sections read_sheet read_lists occurs passing first_place first_shared off_sheet of_round
first_leaves = ap (λ (v : Verdict). answer_of v 0 0 (unsighted_in (read_lists listed) round)) first_yes

as_old : (old : List ℕ) → ¬ Whole old → RefusedAsOld old
as_old old n =
    ap
    (λ (v : Verdict). answer_of v (compared_in (name_given old) round) (added_in (name_given old) round) (unsighted_in (read_lists listed) round))
    (old_refused old this_week listed round [] (first_forth this_week listed round first_yes) n)

as_new : (new : List ℕ) → ¬ Whole new → RefusedAsNew new
as_new new n =
    ap (λ (v : Verdict). answer_of v 0 0 (unsighted_in (read_lists listed) round))
    (sym (first_refused new listed round (refuted (is_whole new) (whole_forth new) n)))

pub refused_as_old : All RefusedAsOld no_catalogues
refused_as_old = all_map as_old no_catalogues none_whole

pub refused_as_new : All RefusedAsNew no_catalogues
refused_as_new = all_map as_new no_catalogues none_whole
