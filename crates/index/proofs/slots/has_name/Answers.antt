-- `index::slots::has_name` meets its contract. Assumes nothing.
use Rattle.std.proofs.Common.{◌≡◌, refl, sym, ap, ◌∙◌}
use mathlib.Core.Bool.{Bool, true, false}
use Rattle.reader.specs.Cases.{probe_of}
use Rattle.reader.specs.Lookup as spec
use Rattle.reader.specs.declared.Hit.{Hit}
use Rattle.reader.specs.declared.Probe.{Probe}
use Rattle.reader.specs.declared.Probe.TheVariants as probe
use Rattle.index.specs.Probe.{is_hit}
use Rattle.index.proofs.slots.has_name.Goals as goal

-- what is no hit of the code is none of the specs
no_hit : (r : Probe) {y : spec.Probe} → probe_of r ≡ y → ((x : Hit) → r ≡ probe.Hit x → ⊥) → false ≡ is_hit y
no_hit (probe.Pass) e n = ap is_hit e
no_hit (probe.Ends) e n = ap is_hit e
no_hit (probe.Hit x) e n = absurd (n x refl)

pub returns-in-Hit : goal.returns-in-Hit
returns-in-Hit c = ap is_hit c.in-Hit.ensures

pub returns-in_default : goal.returns-in_default
returns-in_default c = no_hit c.probe_entry.result c.probe_entry.ensures c.in_default.not-Hit
