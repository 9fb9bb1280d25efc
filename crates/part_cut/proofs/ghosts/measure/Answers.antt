use Rattle.part_cut.proofs.Marking.{space_fits, space_trees, space_countable, measured}
use native.Mathlib.Omega.{arith}
use Rattle.part_cut.proofs.ghosts.measure.Goals as goal

pub first_tree-first-requires : goal.first_tree-first-requires
first_tree-first-requires c = omega (arith, space_fits c.requires (λ i. (c.type_inv.table i).fits))

pub overflow_cast-first : goal.overflow_cast-first
overflow_cast-first c = omega (arith, space_fits c.requires (λ i. (c.type_inv.table i).fits), c.first_tree-first.ensures)

pub end_tree-end-requires : goal.end_tree-end-requires
end_tree-end-requires c = omega (arith, space_fits c.requires (λ i. (c.type_inv.table i).fits))

pub overflow_cast-end : goal.overflow_cast-end
overflow_cast-end c = omega (arith, space_fits c.requires (λ i. (c.type_inv.table i).fits), c.end_tree-end.ensures)

pub mark_trees-requires : goal.mark_trees-requires
mark_trees-requires c = space_trees c.requires (λ i. (c.type_inv.table i).fits) c.first_tree-first.ensures c.end_tree-end.ensures

pub trees-requires : goal.trees-requires
trees-requires c = omega (arith, space_fits c.requires (λ i. (c.type_inv.table i).fits))

pub count_behind-ghosts-requires : goal.count_behind-ghosts-requires
count_behind-ghosts-requires c =
    space_countable c.requires (λ i. (c.type_inv.table i).fits) c.first_tree-first.ensures c.end_tree-end.ensures c.mark_trees.ensures c.trees.ensures c.div_ceil-words.ensures

pub overflow_sub-result : goal.overflow_sub-result
overflow_sub-result c = omega (arith, (space_trees c.requires (λ i. (c.type_inv.table i).fits) c.first_tree-first.ensures c.end_tree-end.ensures).range)

pub returns : goal.returns
returns c =
    measured c.requires (λ i. (c.type_inv.table i).fits) c.first_tree-first.ensures c.end_tree-end.ensures c.mark_trees.ensures c.trees.ensures c.div_ceil-words.ensures
    c.count_behind-ghosts.ensures.0 c.count_behind-ghosts.ensures.1
