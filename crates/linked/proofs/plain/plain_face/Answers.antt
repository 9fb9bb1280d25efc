use native.Mathlib.Omega.{arith}
use Rattle.linked.proofs.Seeing.{plain_fits}
use Rattle.linked.proofs.plain.plain_face.Goals as goal

pub alike_ok-requires : goal.alike_ok-requires
alike_ok-requires c = (c.requires.0, c.requires.1, c.requires.2, omega (arith, c.requires.3, c.requires.1.below), c.requires.5)

pub returns : goal.returns
returns c =
    let tree-at = c.tree_at in
    let pre = c.requires in
    let alike-ok = c.alike_ok in
    λ t. plain_fits _ _ _ tree-at.ensures _ pre.4 pre.3 pre.1 pre.5 pre.6 c.code_of.ensures alike-ok.ensures t
