-- What a list needs, as C has it. Assumes nothing.
use Prim.Native.Nat.{ℕ}
use mathlib.Core.Path.{◌≡◌, ap, ◌∙◌}
use mathlib.Core.List.{List}
use Rattle.image.specs.declared.Mode.{Mode}
use Rattle.build.specs.declared.needs.Needs.{Needs}
use Rattle.build.specs.Needs.{needed}
use Rattle.writer.specs.Numbers.{mode_of}
use Rattle.build_c.specs.Needs.{needed_answer, needs_answer}

pub needs_told : (mode size : ℕ) (ids : List ℕ) (m : Mode) (n : Needs) → m ≡ mode_of mode → n ≡ needed m size ids → needed_answer n ≡ needs_answer mode size ids
unfolding needs_answer
needs_told mode size ids m n is told = ap needed_answer (told ∙ ap (λ (x : Mode). needed x size ids) is)
