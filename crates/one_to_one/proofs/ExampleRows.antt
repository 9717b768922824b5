-- The worked examples hold: the answers are computed from the puts. Assumes nothing.
use Prim.Native.Nat.{◌≤◌, ◌<◌}
use mathlib.Core.Path.{◌≡◌, refl, ap, ◌∙◌}
use mathlib.Core.Bool.{Bool, true, false}
use mathlib.Core.List.{[]}
use mathlib.Core.Option.{Option}
use lib.Dec.{lit≤, lit<}
use Rattle.jhash.specs.Outcome.{Outcome, value}
use Rattle.image.specs.Bytes.{filter, same}
use Rattle.image.specs.Image.{Entry, head_size, image_size, entries_size, back_size, image}
use Rattle.image.specs.Zero.{has_zero}
use Rattle.image.proofs.AllOfList.{All, all_map}
use Rattle.reader.specs.Open.{opening}
use Rattle.lookup_laws.specs.Answer.{of_name, of_id}
use Rattle.canonical.specs.Canonical.{canonical}
use Rattle.canonical.specs.Steps.Made.{Storable}
use Rattle.one_to_one.specs.OneToOne.{Failure, first_failure}
use Rattle.one_to_one.specs.Theorems.Theorem.{kind_among}
use Rattle.one_to_one.specs.Examples.Rows.{OneToOneRow, RowAnswered, one_to_one_rows, NoBytes}
use Rattle.one_to_one.proofs.Answers.{refused, never_refused}
use Rattle.one_to_one.proofs.Pairs.{by_puts_lem}

-- what is computed of a row: its names have no zero byte, its ids and the size of its image are words, and the answer by its puts
abbrev Free : Entry → Type 0
Free e = (has_zero e.name ≡ false) × (e.id < 4294967296)

abbrev Computed : OneToOneRow → Type 0
Computed r =
    All Free r.puts
    × (image_size r.mode r.puts ≤ 4294967295)
    × (first_failure (kind_among r.mode r.puts) head_size r.puts ≡ r.answer)

holds : (r : OneToOneRow) → Computed r → RowAnswered r
holds r c =
    let each : All Storable r.puts = all_map (λ (e : Entry) (p : Free e). record { free = p.0; id_word = p.1 }) r.puts c.0 in
    by_puts_lem (image r.mode r.puts) (record { mode = r.mode; puts = r.puts; each = each; fits = c.1; is = refl })
    ∙ ap {B = Outcome (Option Failure)} value c.2

computed : All Computed one_to_one_rows
unfolding entries_size back_size has_zero first_failure of_name of_id filter same
computed = (
  (tt, lit≤ tt, refl),
  (
    (((refl, lit< tt), ((refl, lit< tt), tt)), lit≤ tt, refl),
    (
      (((refl, lit< tt), ((refl, lit< tt), tt)), lit≤ tt, refl),
      (
        (((refl, lit< tt), ((refl, lit< tt), tt)), lit≤ tt, refl),
        (
          (((refl, lit< tt), ((refl, lit< tt), tt)), lit≤ tt, refl),
          (
            (((refl, lit< tt), ((refl, lit< tt), tt)), lit≤ tt, refl),
            (
              (((refl, lit< tt), ((refl, lit< tt), tt)), lit≤ tt, refl),
              (
                (((refl, lit< tt), ((refl, lit< tt), ((refl, lit< tt), tt))), lit≤ tt, refl),
                ((((refl, lit< tt), ((refl, lit< tt), ((refl, lit< tt), tt))), lit≤ tt, refl), tt),
              ),
            ),
          ),
        ),
      ),
    ),
  ),
)

pub rows_hold : All RowAnswered one_to_one_rows
rows_hold = all_map holds one_to_one_rows computed

-- no byte at all does not open
pub no_bytes : NoBytes
unfolding opening
no_bytes = refused [] (answer_false (canonical []) refl)
  where
    answer_false : (t : Bool) → canonical [] ≡ t → t ≡ false
    answer_false true h = absurd (never_refused [] 1 (λ i. lit< tt) h refl)
    answer_false false h = refl
