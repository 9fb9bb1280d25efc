use Rattle.std.proofs.lemmas.Result.{err_from_is_err_and}
use mathlib.Core.Path.{refl}
use Rattle.encoding.proofs.Refusals.{number_positive}
use Rattle.area_open.proofs.Opening.{fails_tables, fails_rank, fails_dimension, none_fails}
use Rattle.pattern.proofs.Answers.{old_ranks_lem}
use Rattle.area_open.proofs.check.check_opening.Goals as goal

pub returns-in_err-check_tables : goal.returns-in_err-check_tables
returns-in_err-check_tables c =
    let p = err_from_is_err_and c.from_residual.result c.from_residual.ensures.1 in
    rw (p.1, p.2) (fails_tables _ _ _ _ c.in_err-check_tables.ensures (number_positive _))

pub ranks-requires : goal.ranks-requires
ranks-requires c = old_ranks_lem _ _ _ c.in_ok-check_tables.ensures (λ i. (c.shared_slice_known-1.given i).fits) (λ i. (c.shared_slice_known-2-1.given i).fits) refl

pub returns-then-ranks-rank : goal.returns-then-ranks-rank
returns-then-ranks-rank c = fails_rank _ _ _ _ c.in_ok-check_tables.ensures refl c.ranks.ensures.0 c.if-ranks-rank.true

pub returns-then-not-dimension_ok : goal.returns-then-not-dimension_ok
returns-then-not-dimension_ok c =
    fails_dimension _ _ _ _ c.in_ok-check_tables.ensures refl c.ranks.ensures.0 c.if-ranks-rank.false c.dimension_ok.ensures c.if-not-dimension_ok.true

pub returns : goal.returns
returns c = none_fails _ _ _ _ c.in_ok-check_tables.ensures refl c.ranks.ensures.0 c.if-ranks-rank.false c.dimension_ok.ensures c.if-not-dimension_ok.false
