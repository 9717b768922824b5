-- The worked examples hold, computed by the checker. Assumes nothing.
use mathlib.Core.Path.{◌≡◌, refl}
use mathlib.Core.List.{map}
use Rattle.order.specs.Rule.{occurs, before, kept, ordered_from, ordered}
use Rattle.order.specs.Examples.Rows.{OrderRow, order_rows}

-- every row holds
pub rows_hold : map (λ (r : OrderRow). ordered r.pairs r.round) order_rows ≡ map (λ (r : OrderRow). r.answer) order_rows
unfolding ordered_from kept occurs before
rows_hold = refl
