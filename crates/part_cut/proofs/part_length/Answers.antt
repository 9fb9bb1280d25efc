use Rattle.std.proofs.lemmas.Result.{err_from_is_err_and}
use Rattle.encoding.proofs.Refusals.{number_positive}
use Rattle.part_cut.proofs.Marking.{room_of_all}
use Rattle.part_cut.proofs.Cutting.{cut_fits, length_refused_lem}
use Rattle.part_cut.proofs.Parts.{length_found}
use mathlib.Core.Path.{refl, sym}
use native.Mathlib.Omega.{arith}
use Rattle.part_cut.proofs.part_length.Goals as goal

pub returns-in_err-check_cut : goal.returns-in_err-check_cut
returns-in_err-check_cut c =
    let p = err_from_is_err_and c.from_residual.result c.from_residual.ensures.1 in
    rw (p.1, p.2) (length_refused_lem _ _ _ c.in_err-check_cut.ensures (number_positive _))

pub trees-requires : goal.trees-requires
trees-requires c = omega (arith, cut_fits _ _ _ c.in_ok-check_cut.ensures refl (λ i. (c.type_inv.table i).fits))

pub length_with-requires : goal.length_with-requires
length_with-requires c = record { checked = sym c.in_ok-check_cut.ensures; room = omega (arith, c.trees.ensures); few = omega arith }

pub returns-then-trees-le65536 : goal.returns-then-trees-le65536
returns-then-trees-le65536 c = length_found _ _ _ c.in_ok-check_cut.ensures c.length_with.ensures

pub length_with-requires-2 : goal.length_with-requires-2
length_with-requires-2 c = room_of_all _ _ _ c.in_ok-check_cut.ensures (λ i. (c.type_inv.table i).fits)

pub returns : goal.returns
returns c = length_found _ _ _ c.in_ok-check_cut.ensures c.length_with-2.ensures
