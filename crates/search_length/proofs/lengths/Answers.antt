-- `search_length::lengths` meets its contract. Assumes nothing.
use Rattle.std.proofs.Common.{refl}
use Rattle.std.proofs.lemmas.Result.{err_from_is_err_and}
use Rattle.search_length.proofs.Answers.{refused_lengths, filled_lengths}
use Rattle.search_length.proofs.lengths.Goals as goal

pub returns-in_err-entries : goal.returns-in_err-entries
returns-in_err-entries c =
    let p = err_from_is_err_and c.from_residual.result c.from_residual.ensures.1 in
    rw (p.1, p.2) (refused_lengths c.args.image.now _ c.in_err-entries.ensures c.args.counts.now)

pub count_lengths-requires : goal.count_lengths-requires
count_lengths-requires c = record { own = c.in_ok-entries.ensures.own; zeros = refl }

pub returns : goal.returns
returns c = filled_lengths c.in_ok-entries.ensures c.args.counts.now c.count_lengths.ensures
