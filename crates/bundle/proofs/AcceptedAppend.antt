-- An accepted append. Assumes nothing.
use Prim.Native.Nat.{ℕ}
use mathlib.Core.Path.{◌≡◌, sym, ap, ◌∙◌}
use mathlib.Core.List.{List, ◌++◌}
use lib.ListN.{take, drop}
use Rattle.jhash.specs.Outcome.{value}
use Rattle.bundle.specs.Append.{appending, after_append}
use Rattle.bundle.specs.Theorems.Bundles.{Accepts}
use Rattle.bundle.proofs.Appends.{passed, was_accepted, writes, file_joined, whole_counts}
use Rattle.bundle.proofs.WholeFiles.{holds_count}
use Rattle.bundle.proofs.OneImageMore.{grown}

pub accepting : (buf : List ℕ) (n : ℕ) (image : List ℕ) (m : ℕ) → appending buf n image ≡ value m → Accepts buf n image m
accepting buf n image m e =
    let was = was_accepted buf n image m e in
    let p = passed buf n image was.0 in
    let c = whole_counts (take n buf) p.walked in
    let g = grown (take n buf) image c.0 (holds_count (take n buf) c.0 c.1) p.fit in
    let f : take m (after_append buf n image) ≡ take n buf ++ image =
    ap (λ (k : ℕ). take k (after_append buf n image)) was.1 ∙ file_joined buf n image was.0 in
    record {
      joined_length = was.1;
      in_buffer = rw was.1 p.room;
      writes = writes buf n image was.0 ∙ ap (λ (k : ℕ). take n buf ++ image ++ drop k buf) (sym was.1);
      file = f;
      grown = rw f g;
    }
