use mathlib.Core.Path.{refl}
use native.Mathlib.Omega.{arith}
use Rattle.encoding.proofs.Below.{clash}
use Rattle.part_check.proofs.Checking.{place_fits}
use Rattle.part_check.proofs.PlainTrees.{plain_shape, plain_fits}
use Rattle.part_check.proofs.plain.plain_face.Goals as goal

pub returns-then-count-ghosts : goal.returns-then-count-ghosts
returns-then-count-ghosts c = λ t. clash t refl

pub link_alike-requires : goal.link_alike-requires
link_alike-requires c =
    let pre = c.requires in
    let tree-at = c.tree_at-at in
    (omega (arith, pre.0.long, pre.0.below, tree-at.ensures), pre.1, place_fits _ _ _ pre.0.long (omega arith) c.record_at.ensures, plain_shape _ _ tree-at.ensures pre.0)

pub returns : goal.returns
returns c =
    let tree-at = c.tree_at-at in
    let pre = c.requires in
    let neighbour_of_call = c.neighbour_of-j in
    let back-of = c.back_of in
    let record_at_call = c.record_at in
    let link-alike = c.link_alike in
    λ t. plain_fits _ _ tree-at.ensures pre.0 _ neighbour_of_call.ensures (omega arith) c.code_of.ensures back-of.ensures record_at_call.ensures link-alike.ensures t
