use native.Mathlib.Nat.{le_refl}
use native.Mathlib.Omega.{arith}
use Rattle.part.proofs.Ranges.{range_last, range_first}
use Rattle.part_fault.proofs.Finding.{to_local, to_other, to_outside, to_far, to_turned}
use Rattle.part_fault.proofs.Found.{known_ascending}
use Rattle.part_fault.proofs.search.check_ghost_link.Goals as goal

pub to_local-tree-requires : goal.to_local-tree-requires
to_local-tree-requires c = range_first _ _ _ c.in_range.ensures c.if-in_range.true

pub check_link-requires : goal.check_link-requires
check_link-requires c = (omega arith, c.requires.2, omega (arith, range_last _ _ _ c.in_range.ensures c.if-in_range.true, c.to_local-tree.ensures, c.tree_at.ensures))

pub returns-then-in_range : goal.returns-then-in_range
returns-then-in_range c =
    to_local _ _ c.requires.0 _ _ c.ghost_at-at.ensures c.neighbour_of-k.ensures c.in_range.ensures _ c.if-in_range.true c.to_local-tree.ensures c.ghost_index-own.ensures c.tree_at.ensures c.check_link.ensures

pub ghost_with-requires : goal.ghost_with-requires
ghost_with-requires c = known_ascending _ _ c.requires.0

pub returns-in-Some : goal.returns-in-Some
returns-in-Some c =
    to_other _ _ c.requires.0 _ _ c.ghost_at-at.ensures c.neighbour_of-k.ensures c.in_range.ensures c.if-in_range.false c.in-Some.ensures.0 c.in-Some.ensures.1 c.number_of.ensures c.ghost_at.ensures c.check_link-in-Some.ensures

pub returns-then-e-k : goal.returns-then-e-k
returns-then-e-k c =
    to_outside _ _ c.requires.0 _ _ c.ghost_at-at.ensures c.neighbour_of-k.ensures c.in_range.ensures c.if-in_range.false c.in_default.ensures.0 (le_refl _) c.if-e-k.true

pub returns-then-not-orientation_ok : goal.returns-then-not-orientation_ok
returns-then-not-orientation_ok c =
    to_turned _ _ c.requires.0 _ _ c.ghost_at-at.ensures c.neighbour_of-k.ensures c.in_range.ensures c.if-in_range.false c.in_default.ensures.0 (le_refl _) c.if-e-k.false c.orientation_ok.ensures
    c.if-not-orientation_ok.true

pub returns : goal.returns
returns c =
    to_far _ _ c.requires.0 _ _ c.ghost_at-at.ensures c.neighbour_of-k.ensures c.in_range.ensures c.if-in_range.false c.in_default.ensures.0 (le_refl _) c.if-e-k.false c.orientation_ok.ensures
    c.if-not-orientation_ok.false
