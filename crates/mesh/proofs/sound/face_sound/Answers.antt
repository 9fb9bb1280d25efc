use native.Mathlib.Omega.{arith}
use Rattle.mesh.proofs.Checking.{listed_low, down_off, down_read}
use Rattle.mesh.proofs.sound.face_sound.Goals as goal

pub returns-then-not-boundary_ok : goal.returns-then-not-boundary_ok
returns-then-not-boundary_ok c = down_off _ _ c.tree_at-at.ensures _ _ c.boundary_ok.ensures (c.if-not-boundary_ok.true)

pub link_down-requires : goal.link_down-requires
link_down-requires c =
    let tree-at = c.tree_at-at in
    let neighbour_of_call = c.neighbour_of-n in
    let pre = c.requires in
    let low = listed_low _ _ tree-at.ensures _ _ neighbour_of_call.ensures pre.3 in (omega arith, omega arith, omega (arith, low))

pub returns : goal.returns
returns c =
    let tree-at = c.tree_at-at in
    let neighbour_of_call = c.neighbour_of-n in
    let tree-at2 = c.tree_at in
    let boundary-ok = c.boundary_ok in
    let if1 = c.if-not-boundary_ok in
    down_read _ _ tree-at.ensures _ _ _ _ neighbour_of_call.ensures tree-at2.ensures boundary-ok.ensures (if1.false) c.link_down.ensures
