-- `image::entries::name_at` meets its contract. Assumes nothing.
use Rattle.std.proofs.Common.{◌≡◌, ℕ, ◌+◌, ◌-◌, take, drop, ap, arith, length-drop, length-take}
use Rattle.image.proofs.entries.name_at.Goals as goal

pub returns : goal.returns
returns c =
    let a = c.args in
    let rest = drop (a.at + 8) a.buf.now in
    let size : a.at + 7 + a.n - (a.at + 8) ≡ a.n - 1 = omega arith in
    record {
      is = ap (λ (m : ℕ). take m rest) size;
      size = omega (arith, length-take (a.at + 7 + a.n - (a.at + 8)) rest, length-drop (a.at + 8) a.buf.now);
    }
