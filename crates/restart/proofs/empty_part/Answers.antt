use Rattle.std.proofs.lemmas.Result.{err_from_is_err_and}
use Rattle.encoding.proofs.Refusals.{number_positive}
use mathlib.Core.Path.{refl}
use native.Mathlib.Omega.{arith}
use mathlib.Core.Path.{sym}
use Rattle.restart.specs.Calls.{empty_part_of}
use Rattle.restart.proofs.Writing.{empty_length, empty_written}
use Rattle.restart.proofs.Ranges.{range_fits_lem}
use Rattle.restart.proofs.Checks.{empty_numbered, empty_known}
use Rattle.restart.proofs.Answers.{write_refused, write_short, write_done}
use Rattle.restart.proofs.empty_part.Goals as goal

pub returns-in_err-check_empty : goal.returns-in_err-check_empty
unfolding empty_part_of
returns-in_err-check_empty c =
    let p = err_from_is_err_and c.from_residual.result c.from_residual.ensures.1 in
    rw (p.1, p.2) (write_refused _ _ _ _ c.in_err-check_empty.ensures refl (number_positive _))

pub returns-then-out-lt32 : goal.returns-then-out-lt32
unfolding empty_part_of
returns-then-out-lt32 c =
    let if2 = c.if-out-lt32 in
    write_short _ _ _ _ c.in_ok-check_empty.ensures refl (empty_numbered _ _ _) refl (omega (arith, if2.true))

pub trees-trees-requires : goal.trees-trees-requires
trees-trees-requires c = (empty_known _ _ _ (sym c.in_ok-check_empty.ensures)).rank_is.counted

pub overflow_cast-trees : goal.overflow_cast-trees
overflow_cast-trees c =
    let k = (empty_known _ _ _ (sym c.in_ok-check_empty.ensures)).rank_is in omega (arith, (range_fits_lem _ _ (λ i. (c.type_inv.table i).fits) k).most, c.trees-trees.ensures)

pub ranks-ranks-requires : goal.ranks-ranks-requires
ranks-ranks-requires c = (empty_known _ _ _ (sym c.in_ok-check_empty.ensures)).rank_is.counted

pub first_tree-first-requires : goal.first_tree-first-requires
first_tree-first-requires c =
    let k = (empty_known _ _ _ (sym c.in_ok-check_empty.ensures)).rank_is in omega (arith, (range_fits_lem _ _ (λ i. (c.type_inv.table i).fits) k).long)

pub overflow_cast-first : goal.overflow_cast-first
overflow_cast-first c =
    let k = (empty_known _ _ _ (sym c.in_ok-check_empty.ensures)).rank_is in let r = range_fits_lem _ _ (λ i. (c.type_inv.table i).fits) k in omega (arith, r.most, r.rises, r.ends, c.first_tree-first.ensures)

pub returns : goal.returns
unfolding empty_part_of
returns c =
    let if2 = c.if-out-lt32 in
    let trees = c.trees-trees in
    let ranks = c.ranks-ranks in
    let first_tree_call = c.first_tree-first in
    let write-eight = c.write_eight in
    write_done _ _ _ _ c.in_ok-check_empty.ensures refl (empty_numbered _ _ _) if2.false (sym (empty_length _ _ _)) (empty_written _ _ _ _ trees.ensures ranks.ensures.0 first_tree_call.ensures write-eight.ensures)
