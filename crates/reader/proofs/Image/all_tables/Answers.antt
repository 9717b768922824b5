-- `reader::Image::all_tables` meets its contract. The loop's invariant: the sum so far and the halves that are left are the sum of all, and while
-- the bitwise or of the slacks is below 2^63, a table that reaches past the end is still to come exactly where there is one. Assumes nothing.
use Rattle.std.proofs.Common.{◌≡◌, ℕ, ◌+◌, ◌-◌, ◌/◌, ◌%◌, ◌^◌, ◌<◌, sym, ap, ◌∙◌, arith}
use Rattle.image.specs.Head.{bucket_number}
use Rattle.reader.specs.Open.{some_past_end, num_from}
use Rattle.reader.proofs.Opens.{num_from_step, num_from_none, past_end_pass, past_end_none, sum_step, sum_end}
use Rattle.reader.proofs.Image.all_tables.Goals as goal

pub loop-t-preserved : goal.loop-t-preserved
loop-t-preserved c =
    let a = c.args in
    let image = a.self.bytes.now in
    let of_word = c.word in
    let t = c.loop-t.t in
    let inv = c.loop-t.invariant in
    let h : t < 256 = omega arith in
    let added = c.with_table-all.ensures in
    record {
      rows = omega arith;
      num_small = omega (arith, added.num_is);
      sum = sum_step c.loop-t.all.num (bucket_number image t / 2) c.with_table-all.result.num (num_from image (t + 1) (256 - (t + 1)))
          (num_from image t (256 - t)) (num_from image 0 256) inv.sum (num_from_step image t 256 h)
          (added.num_is ∙ ap (λ (n : ℕ). (c.loop-t.all.num + n / 2) % 2 ^ 32) c.word-in-loop-t.ensures);
      past_end = λ k.
          past_end_pass image t 256 of_word.result c.word-in-loop-t.result h of_word.ensures c.word-in-loop-t.ensures (added.fits k).inside
          ∙ inv.past_end (added.fits k).before;
    }

pub returns : goal.returns
returns c =
    let a = c.args in
    let image = a.self.bytes.now in
    let t = c.loop-t.t in
    let inv = c.loop-t.invariant in
    let e : t ≡ 256 = omega arith in
    record {
      num_is = sum_end c.loop-t.all.num (num_from image t (256 - t)) (num_from image 0 256) inv.num_small inv.sum
          (ap (λ (k : ℕ). num_from image k (256 - k)) e ∙ num_from_none image 256);
      none_past_end = λ k. sym (inv.past_end k) ∙ ap (λ (k : ℕ). some_past_end image k (256 - k)) e ∙ past_end_none image 256;
    }
