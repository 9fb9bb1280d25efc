use Rattle.std.proofs.lemmas.Result.{err_from_is_err_and}
use Rattle.encoding.proofs.Refusals.{number_positive}
use Rattle.regions.proofs.Answers.{counts_refused, counts_short, countable, counts_written}
use mathlib.Core.Path.{refl}
use native.Mathlib.Omega.{arith}
use Rattle.regions.proofs.region_counts.Goals as goal

pub returns-in_err-check_part : goal.returns-in_err-check_part
returns-in_err-check_part c =
    let p = err_from_is_err_and c.from_residual.result c.from_residual.ensures.1 in
    rw (p.1, p.2) (counts_refused _ _ _ _ c.in_err-check_part.ensures (number_positive _))

pub returns-then-out-lt4096 : goal.returns-then-out-lt4096
returns-then-out-lt4096 c = counts_short _ _ _ _ c.in_ok-check_part.ensures refl (omega (arith, c.if-out-lt4096.true))

pub count_trees-requires : goal.count_trees-requires
count_trees-requires c = countable _ _ _ _ c.in_ok-check_part.ensures refl (omega (arith, c.if-out-lt4096.false))

pub returns : goal.returns
returns c = counts_written _ _ _ _ c.in_ok-check_part.ensures refl (omega (arith, c.if-out-lt4096.false)) c.count_trees.ensures
