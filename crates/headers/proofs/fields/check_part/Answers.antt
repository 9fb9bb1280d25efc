use mathlib.Core.Path.{refl}
use native.Mathlib.Omega.{arith}
use borrow.Author.Tests.{le-leb, lt-leb}
use Rattle.std.proofs.lemmas.Result.{err_from_is_err_and}
use Rattle.offsets.proofs.Tables.{first_le_end}
use Rattle.headers.specs.Fields.{part_fields}
use Rattle.headers.proofs.FirstWrong.{skip, stop, last, part_read}
use Rattle.headers.proofs.fields.check_part.Goals as goal

pub returns-then-length-lt32 : goal.returns-then-length-lt32
unfolding part_fields
returns-then-length-lt32 c = stop _ _ (lt-leb _ _ c.if-length-lt32.true, refl)

pub overflow_sub-count_due : goal.overflow_sub-count_due
overflow_sub-count_due c =
    omega (arith, first_le_end _ (λ i. (c.shared_slice_known-2-1.given i).fits) c.requires.counted c.requires.checked _ c.requires.below, c.first_tree-first_due.ensures, c.end_tree.ensures)

pub returns-in_err-one_of : goal.returns-in_err-one_of
returns-in_err-one_of c =
    let p = err_from_is_err_and c.from_residual.result c.from_residual.ensures.1 in
    rw (p.1, p.2)
    (part_read _ _ _ c.ranks-ranks_due.ensures.0 c.entry-trees_due.ensures c.first_tree-first_due.ensures c.end_tree.ensures c.dimension-dimension.ensures c.tree_count-count.ensures c.ghost_count.ensures c.ghost_at-size.ensures c.read_u32-last.ensures
    c.first_tree-first.ensures c.read_u32-own.ensures c.read_u32-ranks.ensures c.trees-trees.ensures c.dimension_ok-dimension_ok.ensures
    (skip _ _ (le-leb _ _ c.if-length-lt32.false) (stop _ _ c.in_err-one_of.ensures)))

pub returns-in_err-exactly : goal.returns-in_err-exactly
returns-in_err-exactly c =
    let p = err_from_is_err_and c.from_residual-in_err-exactly.result c.from_residual-in_err-exactly.ensures.1 in
    rw (p.1, p.2)
    (part_read _ _ _ c.ranks-ranks_due.ensures.0 c.entry-trees_due.ensures c.first_tree-first_due.ensures c.end_tree.ensures c.dimension-dimension.ensures c.tree_count-count.ensures c.ghost_count.ensures c.ghost_at-size.ensures c.read_u32-last.ensures
    c.first_tree-first.ensures c.read_u32-own.ensures c.read_u32-ranks.ensures c.trees-trees.ensures c.dimension_ok-dimension_ok.ensures
    (skip _ _ (le-leb _ _ c.if-length-lt32.false) (skip _ _ c.in_ok-one_of.ensures (stop _ _ c.in_err-exactly.ensures))))

pub returns-in_err-exactly-2 : goal.returns-in_err-exactly-2
returns-in_err-exactly-2 c =
    let p = err_from_is_err_and c.from_residual-in_err-exactly-2.result c.from_residual-in_err-exactly-2.ensures.1 in
    rw (p.1, p.2)
    (part_read _ _ _ c.ranks-ranks_due.ensures.0 c.entry-trees_due.ensures c.first_tree-first_due.ensures c.end_tree.ensures c.dimension-dimension.ensures c.tree_count-count.ensures c.ghost_count.ensures c.ghost_at-size.ensures c.read_u32-last.ensures
    c.first_tree-first.ensures c.read_u32-own.ensures c.read_u32-ranks.ensures c.trees-trees.ensures c.dimension_ok-dimension_ok.ensures
    (skip _ _ (le-leb _ _ c.if-length-lt32.false) (skip _ _ c.in_ok-one_of.ensures (skip _ _ c.in_ok-exactly.ensures (stop _ _ c.in_err-exactly-2.ensures)))))

pub returns-in_err-exactly-3 : goal.returns-in_err-exactly-3
returns-in_err-exactly-3 c =
    let p = err_from_is_err_and c.from_residual-in_err-exactly-3.result c.from_residual-in_err-exactly-3.ensures.1 in
    rw (p.1, p.2)
    (part_read _ _ _ c.ranks-ranks_due.ensures.0 c.entry-trees_due.ensures c.first_tree-first_due.ensures c.end_tree.ensures c.dimension-dimension.ensures c.tree_count-count.ensures c.ghost_count.ensures c.ghost_at-size.ensures c.read_u32-last.ensures
    c.first_tree-first.ensures c.read_u32-own.ensures c.read_u32-ranks.ensures c.trees-trees.ensures c.dimension_ok-dimension_ok.ensures
    (skip _ _ (le-leb _ _ c.if-length-lt32.false) (skip _ _ c.in_ok-one_of.ensures (skip _ _ c.in_ok-exactly.ensures (skip _ _ c.in_ok-exactly-2.ensures (stop _ _ c.in_err-exactly-3.ensures))))))

pub returns-in_err-exactly-4 : goal.returns-in_err-exactly-4
returns-in_err-exactly-4 c =
    let p = err_from_is_err_and c.from_residual-in_err-exactly-4.result c.from_residual-in_err-exactly-4.ensures.1 in
    rw (p.1, p.2)
    (part_read _ _ _ c.ranks-ranks_due.ensures.0 c.entry-trees_due.ensures c.first_tree-first_due.ensures c.end_tree.ensures c.dimension-dimension.ensures c.tree_count-count.ensures c.ghost_count.ensures c.ghost_at-size.ensures c.read_u32-last.ensures
    c.first_tree-first.ensures c.read_u32-own.ensures c.read_u32-ranks.ensures c.trees-trees.ensures c.dimension_ok-dimension_ok.ensures
    (skip _ _ (le-leb _ _ c.if-length-lt32.false) (skip _ _ c.in_ok-one_of.ensures (skip _ _ c.in_ok-exactly.ensures (skip _ _ c.in_ok-exactly-2.ensures (skip _ _ c.in_ok-exactly-3.ensures (stop _ _ c.in_err-exactly-4.ensures)))))))

pub returns-in_err-exactly-5 : goal.returns-in_err-exactly-5
returns-in_err-exactly-5 c =
    let p = err_from_is_err_and c.from_residual-in_err-exactly-5.result c.from_residual-in_err-exactly-5.ensures.1 in
    rw (p.1, p.2)
    (part_read _ _ _ c.ranks-ranks_due.ensures.0 c.entry-trees_due.ensures c.first_tree-first_due.ensures c.end_tree.ensures c.dimension-dimension.ensures c.tree_count-count.ensures c.ghost_count.ensures c.ghost_at-size.ensures c.read_u32-last.ensures
    c.first_tree-first.ensures c.read_u32-own.ensures c.read_u32-ranks.ensures c.trees-trees.ensures c.dimension_ok-dimension_ok.ensures
    (skip _ _ (le-leb _ _ c.if-length-lt32.false) (skip _ _ c.in_ok-one_of.ensures (skip _ _ c.in_ok-exactly.ensures (skip _ _ c.in_ok-exactly-2.ensures (skip _ _ c.in_ok-exactly-3.ensures (skip _ _ c.in_ok-exactly-4.ensures (stop _ _ c.in_err-exactly-5.ensures))))))))

pub returns-in_err-exactly-6 : goal.returns-in_err-exactly-6
returns-in_err-exactly-6 c =
    let p = err_from_is_err_and c.from_residual-in_err-exactly-6.result c.from_residual-in_err-exactly-6.ensures.1 in
    rw (p.1, p.2)
    (part_read _ _ _ c.ranks-ranks_due.ensures.0 c.entry-trees_due.ensures c.first_tree-first_due.ensures c.end_tree.ensures c.dimension-dimension.ensures c.tree_count-count.ensures c.ghost_count.ensures c.ghost_at-size.ensures c.read_u32-last.ensures
    c.first_tree-first.ensures c.read_u32-own.ensures c.read_u32-ranks.ensures c.trees-trees.ensures c.dimension_ok-dimension_ok.ensures
    (skip _ _ (le-leb _ _ c.if-length-lt32.false) (skip _ _ c.in_ok-one_of.ensures (skip _ _ c.in_ok-exactly.ensures (skip _ _ c.in_ok-exactly-2.ensures (skip _ _ c.in_ok-exactly-3.ensures (skip _ _ c.in_ok-exactly-4.ensures (skip _ _ c.in_ok-exactly-5.ensures (stop _ _ c.in_err-exactly-6.ensures)))))))))

pub returns : goal.returns
returns c =
    part_read _ _ _ c.ranks-ranks_due.ensures.0 c.entry-trees_due.ensures c.first_tree-first_due.ensures c.end_tree.ensures c.dimension-dimension.ensures c.tree_count-count.ensures c.ghost_count.ensures c.ghost_at-size.ensures c.read_u32-last.ensures
    c.first_tree-first.ensures c.read_u32-own.ensures c.read_u32-ranks.ensures c.trees-trees.ensures c.dimension_ok-dimension_ok.ensures
    (skip _ _ (le-leb _ _ c.if-length-lt32.false) (skip _ _ c.in_ok-one_of.ensures (skip _ _ c.in_ok-exactly.ensures (skip _ _ c.in_ok-exactly-2.ensures (skip _ _ c.in_ok-exactly-3.ensures (skip _ _ c.in_ok-exactly-4.ensures (skip _ _ c.in_ok-exactly-5.ensures (skip _ _ c.in_ok-exactly-6.ensures (last _ _ c.exactly-7.ensures)))))))))
