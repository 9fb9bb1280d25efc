use mathlib.Core.Path.{refl, ◌∙◌}
use Rattle.std.proofs.lemmas.Result.{err_from_is_err_and}
use Rattle.encoding.proofs.Refusals.{number_positive}
use Rattle.part.proofs.Checks.{rank_known}
use Rattle.headers.proofs.FirstWrong.{of_error, part_refused, part_answered}
use Rattle.headers.proofs.part_header.Goals as goal

pub returns-in_err-check_rank : goal.returns-in_err-check_rank
returns-in_err-check_rank c =
    let p = err_from_is_err_and c.from_residual.result c.from_residual.ensures.1 in
    rw (p.1, p.2) (part_refused _ _ _ c.in_err-check_rank.ensures (number_positive _) refl)

pub check_part-requires : goal.check_part-requires
check_part-requires c = rank_known _ _ c.in_ok-check_rank.ensures refl

pub returns : goal.returns
returns c = part_answered _ _ _ c.in_ok-check_rank.ensures refl (rw c.err.ensures.value (of_error c.check_part.result ∙ c.check_part.ensures))
