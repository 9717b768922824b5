-- Demand 3, and its corollaries. Assumes nothing.
use Prim.Native.Nat.{ℕ, ◌≤◌}
use mathlib.Core.Path.{◌≡◌, sym, ap, ◌∙◌}
use mathlib.Core.List.{List}
use lib.ListN.{length}
use Rattle.image.specs.declared.Mode.{Mode}
use Rattle.image.specs.declared.Mode.TheVariants.{Twoway}
use Rattle.image.specs.Image.{head_size, image_size, image}
use Rattle.reader.specs.Lookup.{lookup}
use Rattle.lookup_laws.specs.Answer.{found_offset, first_id, last_name, is_named}
use Rattle.lookup_laws.proofs.ImageAnswers.{name_stands, ids_fit}
use Rattle.writer.specs.declared.Repeats.{Repeats}
use Rattle.lists.specs.Calls.{Call, size_of, WordIds}
use Rattle.lists.specs.Demand3.{accepted_puts, image_of, CallsAnswered, OneList, TwoLists, Demand3}
use Rattle.lists.specs.Theorems.Corollaries.{Together, Corollaries}
use Rattle.lists.specs.Theorems.AfterClose.{ReadingAnswered}
use Rattle.lists.proofs.Members.{named_first, first_last, last_first}
use Rattle.lists.proofs.CallLists.{two_way_lem, list_begins, list_counts, list_answers, list_permitted, list_accepted}
use Rattle.lists.proofs.OneMoreClose.{list_gives, list_formula, list_image, list_below, list_twice, none_accepted}
use Rattle.lists.proofs.ReadingAnswered.{two_way_answered}

-- ---- in either mode

module _ (mode : Mode) (repeats : Repeats) (buffer : List ℕ) (cs : List Call) (room : head_size ≤ length buffer) (word : WordIds mode cs) where
  pub calls_imaged : image_of mode repeats buffer cs ≡ image mode (accepted_puts mode repeats buffer cs)
  unfolding image_of
  calls_imaged = list_image mode repeats buffer room cs word ∙ ap (image mode) (sym (list_accepted mode repeats buffer room cs word))

  pub calls_below : image_size mode (accepted_puts mode repeats buffer cs) ≤ 4294967295
  calls_below = rw (list_accepted mode repeats buffer room cs word) (list_below mode repeats buffer room cs word)

  pub calls_answered : CallsAnswered mode repeats buffer cs
  calls_answered =
      record {
        begins = list_begins mode repeats buffer room;
        begins_counts = list_counts mode repeats buffer room;
        answered = list_answers mode repeats buffer room cs word;
        permitted = list_permitted mode repeats buffer room cs word;
        decided = list_accepted mode repeats buffer room cs word;
        closes = list_gives mode repeats buffer room cs word;
        sized = list_formula mode repeats buffer room cs word ∙ ap (size_of mode) (sym (list_accepted mode repeats buffer room cs word));
        imaged = calls_imaged;
      }

-- ---- two-way

module _ (repeats : Repeats) (buffer : List ℕ) (cs : List Call) (room : head_size ≤ length buffer) where
  -- each reading call answers by the accepted puts
  pub list_answered : ReadingAnswered (accepted_puts Twoway repeats buffer cs) (image_of Twoway repeats buffer cs)
  list_answered =
      rw (calls_imaged Twoway repeats buffer cs room (two_way_lem cs))
      (two_way_answered (accepted_puts Twoway repeats buffer cs) (calls_below Twoway repeats buffer cs room (two_way_lem cs)))

  pub one_list : OneList repeats buffer cs
  one_list = record { calls = calls_answered Twoway repeats buffer cs room (two_way_lem cs); names = list_answered.names; ids = list_answered.ids }

  together : Together (accepted_puts Twoway repeats buffer cs) (image_of Twoway repeats buffer cs)
  together =
      let name_gives = list_answered.names.name_gives in
      let id_gives = list_answered.ids.id_gives in
      record {
        back_and_forth = λ id name h.
            let m = named_first (accepted_puts Twoway repeats buffer cs) name id (sym (id_gives id) ∙ h) in
            (m.0, name_gives name ∙ m.1, m.1);
        inverse = λ names ids name id. (
          λ h. id_gives id ∙ first_last (accepted_puts Twoway repeats buffer cs) name id (ids id) (sym (name_gives name) ∙ h),
          λ h. name_gives name ∙ last_first (accepted_puts Twoway repeats buffer cs) name id (names name) (sym (id_gives id) ∙ h),
        );
      }

  pub corollaries : Corollaries repeats buffer cs
  corollaries =
      let below = calls_below Twoway repeats buffer cs room (two_way_lem cs) in
      record {
        together = together;
        name_stands = λ name.
            ap (λ (bytes : List ℕ). found_offset (lookup bytes name)) (calls_imaged Twoway repeats buffer cs room (two_way_lem cs))
            ∙ name_stands Twoway (accepted_puts Twoway repeats buffer cs) below (ids_fit (accepted_puts Twoway repeats buffer cs) below) name;
        named_home = λ id name h. list_answered.homes id ∙ ap is_named (sym (list_answered.ids.id_gives id) ∙ h);
        empty_image = λ h.
            calls_imaged Twoway repeats buffer cs room (two_way_lem cs)
            ∙ ap (image Twoway) (list_accepted Twoway repeats buffer room cs (two_way_lem cs) ∙ none_accepted Twoway repeats (length buffer) cs h);
        closed_twice = list_twice Twoway repeats buffer room cs (two_way_lem cs);
      }

pub two_lists : (repeats₁ : Repeats) (buffer₁ : List ℕ) (cs₁ : List Call) (repeats₂ : Repeats) (buffer₂ : List ℕ) (cs₂ : List Call)
    → head_size ≤ length buffer₁ → head_size ≤ length buffer₂
    → TwoLists repeats₁ buffer₁ cs₁ repeats₂ buffer₂ cs₂
two_lists repeats₁ buffer₁ cs₁ repeats₂ buffer₂ cs₂ room₁ room₂ =
    let one = list_answered repeats₁ buffer₁ cs₁ room₁ in
    let two = list_answered repeats₂ buffer₂ cs₂ room₂ in
    record {
      alike_name = λ name h. one.names.name_gives name ∙ ap first_id h ∙ sym (two.names.name_gives name);
      alike_id = λ id h. one.ids.id_gives id ∙ ap last_name h ∙ sym (two.ids.id_gives id);
    }

pub demand3 : Demand3
demand3 = record { one_list = one_list; two_lists = two_lists }
