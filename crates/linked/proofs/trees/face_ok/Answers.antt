use Rattle.linked.proofs.Reading.{fits_none, fits_edge, fits_read}
use Rattle.linked.proofs.trees.face_ok.Goals as goal

pub returns-then-x-place : goal.returns-then-x-place
returns-then-x-place c =
    let tree-at = c.tree_at in
    let neighbour_of_call = c.neighbour_of-neighbour in
    let place_of = c.place_of-place in
    fits_none _ _ _ tree-at.ensures _ neighbour_of_call.ensures place_of.ensures c.if-x-place.true

pub returns-then-not-edge_ok : goal.returns-then-not-edge_ok
returns-then-not-edge_ok c = fits_edge _ _ _ _ c.edge_ok.ensures (c.if-not-edge_ok.true)

pub held_ok-requires : goal.held_ok-requires
held_ok-requires c =
    let pre = c.requires in
    let if1 = c.if-x-place in
    (pre.0.laid, pre.1, pre.2, if1.false)

pub returns : goal.returns
returns c =
    let tree-at = c.tree_at in
    let neighbour_of_call = c.neighbour_of-neighbour in
    let place_of = c.place_of-place in
    let edge-ok = c.edge_ok in
    let if2 = c.if-not-edge_ok in
    fits_read _ _ _ tree-at.ensures _ neighbour_of_call.ensures place_of.ensures edge-ok.ensures (if2.false) c.held_ok.ensures
