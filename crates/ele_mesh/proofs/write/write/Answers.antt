use Rattle.ele_mesh.proofs.Joins.{drawn_fit, length_on}
use Rattle.mesh_build.proofs.Building.{built_rows}
use Rattle.mesh_build.proofs.Writing.{built_start, built_next, built_done}
use mathlib.Core.Path.{refl, ◌∙◌}
use native.Mathlib.Omega.{arith}
use borrow.Author.Rules.{rules}
use Rattle.ele_mesh.proofs.write.write.Goals as goal

pub loop-t-init : goal.loop-t-init
loop-t-init c = (refl, built_start _ _ 0 _)

pub rows_of-requires : goal.rows_of-requires
rows_of-requires c = (c.requires.0.ready, omega (arith, c.requires.0.many, c.loop-t-test.true))

pub tree-requires : goal.tree-requires
tree-requires c =
    let loop-test = c.loop-t-test in
    (omega (arith, c.loop-t.invariant.0, c.requires.1, loop-test.true), (omega arith, rw c.rows_of.ensures (built_rows 1 _ _ (drawn_fit c.requires.0) _ loop-test.true)))

pub loop-t-preserved : goal.loop-t-preserved
loop-t-preserved c =
    let loop = c.loop-t in
    (length_on loop.invariant.0 (search rules), built_next _ _ _ _ _ (omega (arith, c.requires.1)) c.loop-t-test.true loop.invariant.1 c.rows_of.ensures c.tree.ensures)

pub shape_of-out : goal.shape_of-out
shape_of-out c = c.loop-t.invariant.0 ∙ (search rules)

pub returns : goal.returns
returns c = built_done _ _ _ _ _ _ (omega (arith, c.requires.1)) c.loop-t.auto.t-end c.loop-t-test.false c.header.ensures c.loop-t.invariant.1
