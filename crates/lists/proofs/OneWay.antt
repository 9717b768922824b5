-- One-way lists. Assumes nothing.
use Prim.Native.Nat.{ℕ, ◌≤◌}
use mathlib.Core.Path.{sym, ap, ◌∙◌}
use mathlib.Core.List.{List}
use lib.ListN.{length}
use Rattle.image.specs.declared.Mode.TheVariants.{Oneway}
use Rattle.image.specs.Image.{head_size}
use Rattle.lookup_laws.specs.Answer.{first_id}
use Rattle.writer.specs.declared.Repeats.{Repeats}
use Rattle.lists.specs.Calls.{Call, WordIds}
use Rattle.lists.specs.Demand3.{accepted_puts}
use Rattle.lists.specs.Theorems.OneWay.{OneWayList, OneWay}
use Rattle.lists.proofs.CallLists.{list_accepted}
use Rattle.lists.proofs.ReadingAnswered.{one_way_unanswered, list_read}
use Rattle.lists.proofs.Theorem.{calls_imaged, calls_below, calls_answered}

module _ (repeats : Repeats) (buffer : List ℕ) (cs : List Call) (room : head_size ≤ length buffer) (word : WordIds Oneway cs) where
  one_way_list : OneWayList repeats buffer cs
  one_way_list =
      record {
        calls = calls_answered Oneway repeats buffer cs room word;
        names = rw (list_accepted Oneway repeats buffer room cs word) (list_read Oneway repeats buffer room cs word).names;
        ids =
            rw (calls_imaged Oneway repeats buffer cs room word)
            (one_way_unanswered (accepted_puts Oneway repeats buffer cs) (calls_below Oneway repeats buffer cs room word));
      }

pub one_way : OneWay
one_way =
    record {
      one_list = one_way_list;
      alike_name = λ repeats₁ buffer₁ cs₁ repeats₂ buffer₂ cs₂ room₁ room₂ word₁ word₂ name h.
          (one_way_list repeats₁ buffer₁ cs₁ room₁ word₁).names.name_gives name
          ∙ ap first_id h
          ∙ sym ((one_way_list repeats₂ buffer₂ cs₂ room₂ word₂).names.name_gives name);
    }
