use Rattle.std.proofs.lemmas.Result.{err_from_is_err_and}
use mathlib.Core.Path.{refl}
use Rattle.part.proofs.Checks.{rank_known}
use Rattle.part_check.proofs.Checks.{rank_refuses, check_fails, check_passes}
use Rattle.part_check.proofs.check_part.Goals as goal

pub returns-in_err-check_rank : goal.returns-in_err-check_rank
returns-in_err-check_rank c =
    let p = err_from_is_err_and c.from_residual.result c.from_residual.ensures.1 in
    rw (p.1, p.2) (rank_refuses _ _ _ _ c.in_err-check_rank.ensures)

pub part_sound-requires : goal.part_sound-requires
part_sound-requires c = rank_known _ _ c.in_ok-check_rank.ensures refl

pub returns-then-not-part_sound : goal.returns-then-not-part_sound
returns-then-not-part_sound c = check_fails _ _ _ c.in_ok-check_rank.ensures c.part_sound.ensures c.if-not-part_sound.true

pub returns : goal.returns
returns c = check_passes _ _ _ c.in_ok-check_rank.ensures c.part_sound.ensures c.if-not-part_sound.false
