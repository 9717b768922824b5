-- The images of puts: the answer by the puts. Assumes nothing.
use Prim.Native.Nat.{ℕ, ◌-◌, ◌≤◌}
use native.Mathlib.Omega.{arith}
use mathlib.Core.Path.{◌≡◌, sym, ap, ◌∙◌}
use mathlib.Core.Bool.{Bool, true, cond}
use mathlib.Core.List.{List}
use lib.ListN.{length}
use Rattle.image.specs.declared.Mode.{Mode}
use Rattle.image.specs.declared.Mode.TheVariants.{Twoway}
use Rattle.image.specs.Image.{head_size, back_size, back_size_of}
use Rattle.reader.specs.Naming.{name_given}
use Rattle.reader.specs.IdWalk.{upper_hint}
use Rattle.sheet.specs.SheetReading.{read_lists}
use Rattle.lookup_laws.proofs.ImageWalk.{hint_image}
use Rattle.writer.specs.declared.Repeats.{Repeats}
use Rattle.lists.specs.Calls.{Call, WordIds}
use Rattle.lists.specs.Demand3.{accepted_puts, image_of}
use Rattle.canonical.specs.Steps.Made.{Made}
use Rattle.canonical.proofs.ListImages.{list_made, list_puts, list_mode}
use Rattle.canonical.proofs.ReadBack.{made_puts, made_mode, canonical_yes}
use Rattle.one_to_one.proofs.Pairs.{gives_last}
use Rattle.preflight.specs.Names.{Names}
use Rattle.preflight.specs.OnSheet.{of_sheet}
use Rattle.preflight.specs.Verdicts.{is_whole, and_then, of_round, of_names, of_changes, verdict_first, verdict}
use Rattle.preflight.specs.Counts.{compared_in, added_in, unsighted_in}
use Rattle.preflight.specs.Preflight.{answer_of, preflight}
use Rattle.preflight.specs.Theorems.Theorem.{names_of, verdict_by_puts, by_puts}
use Rattle.preflight.specs.Answers.Verdict.{NewRefused, OldRefused}
use Rattle.preflight.proofs.Alone.{whole_back}

module _ (img : List ℕ) (m : Made img) (two : m.mode ≡ Twoway) where
  made_whole : is_whole img ≡ true
  made_whole = whole_back img (record { is_canonical = canonical_yes img m; two_way = made_mode img m ∙ two })

  made_names : name_given img ≡ names_of m.puts
  made_names = λ i id. gives_last img m (made_mode img m ∙ two) id i

  made_bound : upper_hint img 0 ≡ back_size m.puts
  made_bound =
      let z : back_size m.puts - 0 ≡ back_size m.puts = omega arith in
      ap (λ (l : List ℕ). upper_hint l 0) (sym m.is)
      ∙ hint_image m.mode m.puts m.fits 0
      ∙ ap (λ (x : Mode). back_size_of x m.puts - 0) two
      ∙ z

module _ (new : List ℕ) (n : Made new) (q : n.mode ≡ Twoway) (sheet round : List ℕ) where
  pub first_by_puts : verdict_first new sheet round ≡ and_then (of_sheet (read_lists sheet) round) (of_round (names_of n.puts) round)
  unfolding verdict_first
  first_by_puts =
      ap (λ (t : Bool). cond t (and_then (of_sheet (read_lists sheet) round) (of_round (name_given new) round)) NewRefused) (made_whole new n q)
      ∙ ap (λ (f : Names). and_then (of_sheet (read_lists sheet) round) (of_round f round)) (made_names new n q)

module _ (old new : List ℕ) (m : Made old) (n : Made new) (p : m.mode ≡ Twoway) (q : n.mode ≡ Twoway)
    (sheet round accepted : List ℕ) where
  changes_by_puts : of_changes old new round accepted ≡ of_names (names_of m.puts) (names_of n.puts) (back_size m.puts) round accepted
  unfolding of_changes
  changes_by_puts =
      ap (λ (t : Bool). cond t (of_names (name_given old) (name_given new) (upper_hint old 0) round accepted) OldRefused) (made_whole old m p)
      ∙ (λ i. of_names (made_names old m p i) (made_names new n q i) (made_bound old m p i) round accepted)

  verdict_by_puts_lem : verdict old new sheet round accepted ≡ verdict_by_puts m.puts n.puts sheet round accepted
  unfolding verdict
  verdict_by_puts_lem = λ i. and_then (first_by_puts new n q sheet round i) (changes_by_puts i)

  pub by_puts_lem : preflight old new sheet round accepted ≡ by_puts m.puts n.puts sheet round accepted
  by_puts_lem =
      λ i. answer_of (verdict_by_puts_lem i) (compared_in (made_names old m p i) round) (added_in (made_names old m p i) round)
      (unsighted_in (read_lists sheet) round)

module _ (repeats₁ repeats₂ : Repeats) (buffer₁ buffer₂ : List ℕ) (cs₁ cs₂ : List Call)
    (room₁ : head_size ≤ length buffer₁) (room₂ : head_size ≤ length buffer₂) (word₁ : WordIds Twoway cs₁) (word₂ : WordIds Twoway cs₂)
    (sheet round accepted : List ℕ) where
  pub of_lists : preflight (image_of Twoway repeats₁ buffer₁ cs₁) (image_of Twoway repeats₂ buffer₂ cs₂) sheet round accepted
      ≡ by_puts (accepted_puts Twoway repeats₁ buffer₁ cs₁) (accepted_puts Twoway repeats₂ buffer₂ cs₂) sheet round accepted
  of_lists =
      let old = image_of Twoway repeats₁ buffer₁ cs₁ in
      let new = image_of Twoway repeats₂ buffer₂ cs₂ in
      let m = list_made Twoway repeats₁ buffer₁ room₁ cs₁ word₁ in
      let n = list_made Twoway repeats₂ buffer₂ room₂ cs₂ word₂ in
      let mp : m.puts ≡ accepted_puts Twoway repeats₁ buffer₁ cs₁ = sym (made_puts old m) ∙ list_puts Twoway repeats₁ buffer₁ room₁ cs₁ word₁ in
      let np : n.puts ≡ accepted_puts Twoway repeats₂ buffer₂ cs₂ = sym (made_puts new n) ∙ list_puts Twoway repeats₂ buffer₂ room₂ cs₂ word₂ in
      by_puts_lem old new m n (sym (made_mode old m) ∙ list_mode Twoway repeats₁ buffer₁ room₁ cs₁ word₁)
      (sym (made_mode new n) ∙ list_mode Twoway repeats₂ buffer₂ room₂ cs₂ word₂) sheet round accepted
      ∙ (λ i. by_puts (mp i) (np i) sheet round accepted)
