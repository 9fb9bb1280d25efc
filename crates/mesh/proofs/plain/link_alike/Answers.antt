use Rattle.mesh.proofs.PlainTrees.{alike_down}
use Rattle.mesh.proofs.plain.link_alike.Goals as goal

pub returns : goal.returns
returns c =
    let code_of_call = c.code_of-code in
    let pre = c.requires in
    let shape_of = c.shape_of in
    let corners-fit = c.corners_fit in
    λ e. alike_down _ _ _ _ _ code_of_call.ensures pre.3 shape_of.ensures corners-fit.ensures c.answered_there.ensures e
