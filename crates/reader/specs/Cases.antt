-- The answers' cases: for each type that a call answers, 01's values of its cases.
use Rattle.std.specs.Prelude.{ℕ, Option, Some, None, List}
use Rattle.std.specs.Borrow.{Bor}
use Rattle.std.proofs.Math.Option as math
use Rattle.reader.specs.Lookup.{Lookup, found, nothing}
use Rattle.reader.specs.Lookup as spec
use Rattle.reader.specs.Naming.{Naming, place, unnamed}
use Rattle.reader.specs.IdWalk.{Step, item, done}
use Rattle.reader.specs.declared.ToId.{ToId}
use Rattle.reader.specs.declared.Hit.{Hit}
use Rattle.reader.specs.declared.Probe.{Probe}
use Rattle.reader.specs.declared.Probe.TheVariants as probe
use Rattle.reader.specs.declared.Place.{Place}
use Rattle.reader.specs.declared.Item.{Item}

-- found with its id and its offset, or nothing; both carry the buckets read
abbrev pub found_or_nothing : ℕ → Option Hit → Lookup
found_or_nothing buckets (Some h) = found (record { id = h.id; buckets = buckets; offset = h.offset })
found_or_nothing buckets None = nothing buckets

abbrev pub lookup_of : ToId → Lookup
lookup_of t = found_or_nothing t.buckets t.hit

-- the buckets read that a lookup's answer carries
abbrev pub reads : Lookup → ℕ
reads (found f) = f.buckets
reads (nothing n) = n

-- the probe of a bucket
abbrev pub probe_of : Probe → spec.Probe
probe_of probe.Pass = spec.pass
probe_of probe.Ends = spec.ends
probe_of (probe.Hit h) = spec.hit (record { id = h.id; offset = h.offset })

-- the place of the name, or nothing
abbrev pub naming_of : Option Place → Naming
naming_of (Some p) = place p.start p.len
naming_of None = unnamed

-- the name's bytes, or none
abbrev pub given_of : Option (Bor (List ℕ)) → math.Option (List ℕ)
given_of (Some name) = math.some name.now
given_of None = math.none

-- the step of a walk: id, place, and the walk's next id; or the end
abbrev pub stepped_of : Option Item → Step
stepped_of (Some i) = item i.id i.place.start i.place.len i.iter.next
stepped_of None = done
