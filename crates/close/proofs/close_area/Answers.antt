use Rattle.std.proofs.lemmas.Result.{err_from_is_err_and}
use mathlib.Core.Path.{refl}
use Rattle.encoding.proofs.Refusals.{number_positive}
use native.Mathlib.Omega.{arith}
use Rattle.close.proofs.Closing.{close_refused}
use Rattle.close.proofs.Joining.{trees_few}
use Rattle.close_check.proofs.Checks.{early_refused, complete}
use Rattle.close.proofs.close_area.Goals as goal

pub returns-in_err-check_early : goal.returns-in_err-check_early
returns-in_err-check_early c =
    let p = err_from_is_err_and c.from_residual.result c.from_residual.ensures.1 in
    rw (p.1, p.2) (close_refused _ _ (early_refused _ c.in_err-check_early.ensures (number_positive _)) (number_positive _))

pub trees-requires : goal.trees-requires
trees-requires c = omega (arith, (complete _ c.in_ok-check_early.ensures (λ i. (c.type_inv.area i).fits) refl).header.long)

pub close_with-requires : goal.close_with-requires
close_with-requires c = (complete _ c.in_ok-check_early.ensures (λ i. (c.type_inv.area i).fits) refl, omega (arith, c.trees.ensures, c.if-trees-le65536.true), omega arith)

pub close_with-requires-2 : goal.close_with-requires-2
close_with-requires-2 c = let k = complete _ c.in_ok-check_early.ensures (λ i. (c.type_inv.area i).fits) refl in (k, omega (arith, trees_few _ (λ i. (c.type_inv.area i).fits) k.sound), omega arith)
