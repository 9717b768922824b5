-- `image::packed::PackedNames::name` meets its contract. Assumes nothing.
use Rattle.std.proofs.Common.{ℕ, length, get_or, sym, ap, ◌∙◌, arith}
use Rattle.image.specs.Stored.{between}
use Rattle.image.specs.PackedNames.{begin_of}
use Rattle.image.proofs.NameEnds.{Placed, placed, nth_name}
use Rattle.image.proofs.packed.PackedNames.name.Goals.{After-begin_of-start}
use Rattle.image.proofs.packed.PackedNames.name.Goals as goal

-- where the name begins and ends
placed_here : (c : After-begin_of-start) → let a = c.args in Placed (length a.self.bytes.now) (begin_of a.self.ends.now a.i) (get_or a.self.ends.now a.i 0)
placed_here c =
    placed (length c.args.self.bytes.now) c.args.self.ends.now c.args.i c.args.self.ends_rise c.requires

pub slice_bounds-result-count : goal.slice_bounds-result-count
slice_bounds-result-count c = omega (arith, placed_here (goal.at.slice_bounds-result-count c).After-begin_of-start, c.begin_of-start.ensures)

pub slice_bounds-result-start : goal.slice_bounds-result-start
slice_bounds-result-start c = omega (arith, placed_here (goal.at.slice_bounds-result-start c).After-begin_of-start, c.begin_of-start.ensures)

pub slice_bounds-result-end : goal.slice_bounds-result-end
slice_bounds-result-end c = omega (arith, placed_here (goal.at.slice_bounds-result-end c).After-begin_of-start, c.begin_of-start.ensures)

pub returns : goal.returns
returns c =
    ap (λ (b : ℕ). between c.args.self.bytes.now b (get_or c.args.self.ends.now c.args.i 0)) c.begin_of-start.ensures
    ∙ sym (nth_name c.args.self.bytes.now c.args.self.ends.now c.args.i c.requires)
