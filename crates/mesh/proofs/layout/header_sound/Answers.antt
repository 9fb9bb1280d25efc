use mathlib.Core.Path.{sym}
use Rattle.mesh.proofs.Checking.{header_short, header_read}
use Rattle.mesh.proofs.layout.header_sound.Goals as goal

pub returns-then-mesh-lt8 : goal.returns-then-mesh-lt8
returns-then-mesh-lt8 c = sym (header_short _ c.if-mesh-lt8.true)

pub returns : goal.returns
returns c =
    let dimension = c.dimension in
    let trees = c.trees-trees in
    let dimension_ok_call = c.dimension_ok in
    let tree-count-ok = c.tree_count_ok in
    header_read _ dimension.ensures trees.ensures dimension_ok_call.ensures tree-count-ok.ensures c.tree_at.ensures
