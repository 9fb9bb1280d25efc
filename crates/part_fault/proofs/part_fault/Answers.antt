use mathlib.Core.Path.{refl}
use Rattle.std.proofs.lemmas.Result.{err_from_is_err_and}
use Rattle.encoding.proofs.Refusals.{number_positive}
use Rattle.part.proofs.Checks.{rank_known}
use Rattle.part_check.proofs.Checking.{head_laid}
use Rattle.part_fault.proofs.Theorems.{part_refused, part_headless, part_searched}
use Rattle.part_fault.proofs.part_fault.Goals as goal

pub returns-in_err-check_rank : goal.returns-in_err-check_rank
returns-in_err-check_rank c =
    let p = err_from_is_err_and c.from_residual.result c.from_residual.ensures.1 in
    rw (p.1, p.2) (part_refused _ _ _ c.in_err-check_rank.ensures (number_positive _) refl)

pub header_sound-requires : goal.header_sound-requires
header_sound-requires c = rank_known _ _ c.in_ok-check_rank.ensures refl

pub returns-then-not-header_sound : goal.returns-then-not-header_sound
returns-then-not-header_sound c = part_headless _ _ _ c.in_ok-check_rank.ensures refl c.header_sound.ensures c.if-not-header_sound.true refl

pub extent_of-requires : goal.extent_of-requires
extent_of-requires c = head_laid _ _ _ (λ i. (c.shared_slice_known-2-1.given i).fits) (rank_known _ _ c.in_ok-check_rank.ensures refl) c.header_sound.ensures c.if-not-header_sound.false

pub returns : goal.returns
returns c = part_searched _ _ _ c.in_ok-check_rank.ensures refl c.header_sound.ensures c.if-not-header_sound.false c.first_wrong.ensures
