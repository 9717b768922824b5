-- What cqdb_build_needs answers: what `build` says that a list needs, in a struct. Every mode but 0 is one-way.
use Rattle.std.specs.Prelude.{ℕ, List}
use Rattle.build.specs.declared.needs.Needs.{Needs}
use Rattle.build.specs.Needs.{needed}
use Rattle.writer.specs.Numbers.{mode_of}
use Rattle.build_c.specs.declared.NeedsAnswer.{NeedsAnswer}

abbrev pub needed_answer : Needs → NeedsAnswer
needed_answer n = record { bytes = n.bytes; words = n.words }

unfoldable pub needs_answer : ℕ → ℕ → List ℕ → NeedsAnswer
needs_answer mode size ids = needed_answer (needed (mode_of mode) size ids)
