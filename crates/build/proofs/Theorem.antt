-- What is proved of a whole list. Assumes nothing.
use mathlib.Core.Path.{refl, sym, ap, ◌∙◌}
use lib.ListN.{length}
use Rattle.lists.proofs.Theorem.{one_list, calls_answered}
use Rattle.lists.proofs.Appended.{size_of_is}
use Rattle.lists.specs.Calls.{puts}
use Rattle.build.specs.Build.{calls_of, listed}
use Rattle.build.specs.Needs.{at_most}
use Rattle.build.specs.Theorems.Builds.{BuildHolds}
use Rattle.build.proofs.Needed.{needs_hold}
use Rattle.build.proofs.Whole.{refused_some, refused_build}

pub build_holds : BuildHolds
build_holds =
    record {
      demand3 = λ repeats buffer bytes ends ids room. one_list repeats buffer (listed bytes ends ids) room;
      answered = λ mode repeats buffer bytes ends ids room word. calls_answered mode repeats buffer (listed bytes ends ids) room word;
      refused_kept = λ mode repeats buffer bytes ends ids places bufferThen k e left.
          let some = refused_some mode repeats buffer bytes ends ids (length places) k e in
          let out = refused_build mode repeats buffer bytes ends ids places _ refl some in
          (left.refused some, sym out.1.1);
      kept_from = λ mode xs ids same. needs_hold.exact mode xs ids same ∙ ap at_most (size_of_is mode (puts (calls_of xs ids)));
    }
