-- `search_length::average` meets its contract. Assumes nothing.
use Rattle.std.proofs.Common.{refl}
use Rattle.std.proofs.lemmas.Result.{err_from_is_err_and}
use Rattle.search_length.proofs.Answers.{refused, averaged}
use Rattle.search_length.proofs.average.Goals as goal

pub returns-in_err-entries : goal.returns-in_err-entries
returns-in_err-entries c =
    let p = err_from_is_err_and c.from_residual.result c.from_residual.ensures.1 in
    rw (p.1, p.2) (refused c.args.image.now _ c.in_err-entries.ensures)

pub count_lengths-sum-requires : goal.count_lengths-sum-requires
count_lengths-sum-requires c = record { own = c.in_ok-entries.ensures.own; zeros = refl }

pub returns : goal.returns
returns c = averaged c.in_ok-entries.ensures c.count_lengths-sum.ensures
