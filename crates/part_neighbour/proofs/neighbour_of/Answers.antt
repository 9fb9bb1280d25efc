use Rattle.std.proofs.lemmas.Result.{err_from_is_err_and}
use Rattle.part_neighbour.proofs.Across.{answer_rank, answer_index, answer_face, answer_unsound, tree_there, answer_link}
use Rattle.part.proofs.Checks.{rank_known, rank_fits}
use mathlib.Core.Path.{refl}
use native.Mathlib.Omega.{arith}
use Rattle.part_neighbour.proofs.neighbour_of.Goals as goal

pub returns-in_err-check_rank : goal.returns-in_err-check_rank
returns-in_err-check_rank c =
    let p = err_from_is_err_and c.from_residual.result c.from_residual.ensures.1 in
    rw (p.1, p.2) (answer_rank _ _ _ _ _ _ c.in_err-check_rank.ensures)

pub first_tree-first-requires : goal.first_tree-first-requires
first_tree-first-requires c = omega (arith, rank_fits _ _ c.in_ok-check_rank.ensures refl (λ i. (c.type_inv.table i).fits))

pub end_tree-end-requires : goal.end_tree-end-requires
end_tree-end-requires c = omega (arith, rank_fits _ _ c.in_ok-check_rank.ensures refl (λ i. (c.type_inv.table i).fits))

pub overflow_sub-end : goal.overflow_sub-end
overflow_sub-end c = omega (arith, rank_fits _ _ c.in_ok-check_rank.ensures refl (λ i. (c.type_inv.table i).fits), c.first_tree-first.ensures, c.end_tree-end.ensures)

pub returns-then-end-first : goal.returns-then-end-first
returns-then-end-first c = answer_index _ _ _ _ _ c.in_ok-check_rank.ensures c.first_tree-first.ensures c.end_tree-end.ensures c.if-end-first.true

pub returns-then-face-ge6 : goal.returns-then-face-ge6
returns-then-face-ge6 c = answer_face _ _ _ _ _ c.in_ok-check_rank.ensures c.first_tree-first.ensures c.end_tree-end.ensures c.if-end-first.false c.if-face-ge6.true

pub part_sound-requires : goal.part_sound-requires
part_sound-requires c = rank_known _ _ c.in_ok-check_rank.ensures refl

pub returns-then-not-part_sound : goal.returns-then-not-part_sound
returns-then-not-part_sound c = answer_unsound _ _ _ _ _ c.in_ok-check_rank.ensures c.first_tree-first.ensures c.end_tree-end.ensures c.if-end-first.false c.if-face-ge6.false c.part_sound.ensures c.if-not-part_sound.true

pub shape_of-shape-requires : goal.shape_of-shape-requires
shape_of-shape-requires c = omega (arith, tree_there _ _ _ _ _ c.in_ok-check_rank.ensures c.first_tree-first.ensures c.end_tree-end.ensures c.if-end-first.false c.if-face-ge6.false c.part_sound.ensures c.if-not-part_sound.false (λ i. (c.type_inv.table i).fits), c.tree_at.ensures)

pub link_of-link-requires : goal.link_of-link-requires
link_of-link-requires c = (tree_there _ _ _ _ _ c.in_ok-check_rank.ensures c.first_tree-first.ensures c.end_tree-end.ensures c.if-end-first.false c.if-face-ge6.false c.part_sound.ensures c.if-not-part_sound.false (λ i. (c.type_inv.table i).fits), omega arith)

pub returns : goal.returns
returns c =
    answer_link _ _ _ _ _ c.in_ok-check_rank.ensures c.first_tree-first.ensures c.end_tree-end.ensures c.if-end-first.false c.if-face-ge6.false c.part_sound.ensures c.if-not-part_sound.false c.tree_at.ensures c.shape_of-shape.ensures c.link_of-link.ensures
