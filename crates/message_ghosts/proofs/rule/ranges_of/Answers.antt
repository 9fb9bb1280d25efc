use native.Mathlib.Omega.{arith}
use Rattle.message_ghosts.proofs.Reading.{rank_row, rank_new_row}
use Rattle.message_ghosts.proofs.Ranging.{new_range, ranged}
use Rattle.message_ghosts.proofs.rule.ranges_of.Goals as goal

pub first_tree-first-requires : goal.first_tree-first-requires
first_tree-first-requires c = omega (arith, rank_new_row c.requires)

pub overflow_cast-first : goal.overflow_cast-first
overflow_cast-first c = omega (arith, c.first_tree-first.ensures, new_range c.requires)

pub end_tree-end-requires : goal.end_tree-end-requires
end_tree-end-requires c = rank_new_row c.requires

pub overflow_cast-end : goal.overflow_cast-end
overflow_cast-end c = omega (arith, c.end_tree-end.ensures, (new_range c.requires).1)

pub cut_at-below-requires : goal.cut_at-below-requires
cut_at-below-requires c = omega (arith, c.first_tree-first.ensures, c.end_tree-end.ensures, (new_range c.requires).0)

pub first_tree-requires : goal.first_tree-requires
first_tree-requires c = omega (arith, rank_row c.requires)

pub end_tree-requires : goal.end_tree-requires
end_tree-requires c = rank_row c.requires

pub returns : goal.returns
returns c =
    let pre = c.requires in
    let first_tree_call = c.first_tree-first in
    let end-tree = c.end_tree-end in
    let first-tree2 = c.first_tree in
    let end-tree2 = c.end_tree in
    let cut_at = c.cut_at-below in
    let cut-at2 = c.cut_at-kept in
    ranged pre _ _ _ _ _ _ _ _ first_tree_call.ensures end-tree.ensures first-tree2.ensures end-tree2.ensures cut_at.ensures cut-at2.ensures c.cut_at-until.ensures
