use Rattle.std.proofs.lemmas.Result.{err_from_is_err_and}
use Rattle.encoding.proofs.Refusals.{number_positive}
use Rattle.part_cut.proofs.Marking.{room_of_all}
use Rattle.part_cut.proofs.Cutting.{cut_fits}
use Rattle.part_cut.proofs.Parts.{cut_refused}
use mathlib.Core.Path.{refl, sym}
use native.Mathlib.Omega.{arith}
use Rattle.part_cut.proofs.cut_part.Goals as goal

pub returns-in_err-check_cut : goal.returns-in_err-check_cut
returns-in_err-check_cut c =
    let p = err_from_is_err_and c.from_residual.result c.from_residual.ensures.1 in
    rw (p.1, p.2) (cut_refused _ _ _ _ c.in_err-check_cut.ensures (number_positive _))

pub trees-requires : goal.trees-requires
trees-requires c = omega (arith, cut_fits _ _ _ c.in_ok-check_cut.ensures refl (λ i. (c.type_inv.table i).fits))

pub cut_with-requires : goal.cut_with-requires
cut_with-requires c = record { checked = sym c.in_ok-check_cut.ensures; room = omega (arith, c.trees.ensures); few = omega arith }

pub cut_with-requires-2 : goal.cut_with-requires-2
cut_with-requires-2 c = room_of_all _ _ _ c.in_ok-check_cut.ensures (λ i. (c.type_inv.table i).fits)
