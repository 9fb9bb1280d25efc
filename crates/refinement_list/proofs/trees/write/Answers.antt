use mathlib.Core.Path.{refl, sym, ◌∙◌}
use native.Mathlib.Omega.{arith}
use Rattle.refinement_list.proofs.Lists.{writing_start, string_inside, string_there, written_small, writing_turn, writing_done}
use Rattle.refinement_list.proofs.trees.write.Goals as goal

pub loop-i-init : goal.loop-i-init
loop-i-init c = writing_start _ _ _ c.requires.walkable _

pub overflow_add-e : goal.overflow_add-e
overflow_add-e c = omega (arith, string_inside _ _ _ c.requires.walkable _ _ c.loop-i.invariant.begins c.loop-i-test.true)

pub slice_bounds-tree-end : goal.slice_bounds-tree-end
slice_bounds-tree-end c = omega (arith, string_inside _ _ _ c.requires.walkable _ _ c.loop-i.invariant.begins c.loop-i-test.true)

pub unwrap-t-requires : goal.unwrap-t-requires
unwrap-t-requires c = string_there _ _ _ c.requires.walkable _ _ _ c.loop-i.invariant.begins c.loop-i-test.true refl c.tree.ensures.0

pub overflow_cast-out : goal.overflow_cast-out
overflow_cast-out c =
    omega (arith, written_small _ _ _ c.requires.walkable _ _ _ c.unwrap-t.result c.loop-i.invariant.begins c.loop-i-test.true refl (sym c.unwrap-t.ensures ∙ c.tree.ensures.0))

pub loop-i-preserved : goal.loop-i-preserved
loop-i-preserved c =
    writing_turn _ _ _ c.requires.walkable _ _ _ _ c.loop-i.invariant.begins c.loop-i-test.true refl (sym c.unwrap-t.ensures ∙ c.tree.ensures.0) _ _ c.loop-i.invariant c.requires.shapes_in_bounds

pub returns : goal.returns
returns c = writing_done _ _ _ c.requires.walkable _ _ _ _ c.loop-i.invariant c.loop-i-test.false
