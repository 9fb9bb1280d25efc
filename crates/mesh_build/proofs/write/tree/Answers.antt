use Rattle.mesh_build.proofs.Writing.{tree_stored_lem}
use Rattle.records.specs.Shape.{faces_in}
use mathlib.Core.Path.{ap, ◌∙◌}
use Rattle.mesh_build.proofs.write.tree.Goals as goal

pub codes-requires : goal.codes-requires
codes-requires c =
    let faces_in_call = c.faces_in-faces in
    let dimension_of_call = c.dimension_of in
    let pre = c.requires in
    rw (faces_in_call.ensures.0, dimension_of_call.ensures) pre.1.1

pub returns : goal.returns
returns c =
    let pre = c.requires in
    let tree-at = c.tree_at in
    let faces_in_call = c.faces_in-faces in
    let dimension_of_call = c.dimension_of in
    let store64 = c.store64 in
    let pair = c.pair in
    let pair2 = c.pair-2 in
    let pair3 = c.pair-3 in
    let pair4 = c.pair-4 in
    let codes = c.codes in
    tree_stored_lem _ _ _ _ _ pre.1.0 tree-at.ensures (faces_in_call.ensures.0 ∙ ap faces_in dimension_of_call.ensures) store64.ensures pair.ensures pair2.ensures pair3.ensures pair4.ensures codes.ensures
