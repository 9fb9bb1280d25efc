use Rattle.ghost_links.proofs.Checking.{position_is, answered_not, answered_read, listed_there}
use native.Mathlib.Omega.{arith}
use borrow.Author.Rules.{rules}
use Rattle.ghost_links.proofs.check.face_linked.Goals as goal

pub returns-then-not-boundary_ok : goal.returns-then-not-boundary_ok
returns-then-not-boundary_ok c =
    let neighbour_of_call = c.neighbour_of-k in
    let number_of_call = c.number_of-own in
    let boundary-ok = c.boundary_ok in
    answered_not _ _ _ _ _ neighbour_of_call.ensures number_of_call.ensures _ boundary-ok.ensures (c.if-not-boundary_ok.true)

pub find_near-position-requires : goal.find_near-position-requires
find_near-position-requires c =
    let pre = c.requires in
    (pre.0.indexed, pre.1)

pub link_down-requires : goal.link_down-requires
link_down-requires c =
    let pre = c.requires in
    let neighbour_of_call = c.neighbour_of-k in
    (search rules, search rules, omega (arith, pre.0.fits, listed_there _ _ _ _ _ neighbour_of_call.ensures pre.3 (position_is _ _ pre.0.indexed _ c.find_near-position.ensures.0)))

pub returns : goal.returns
returns c =
    let neighbour_of_call = c.neighbour_of-k in
    let number_of_call = c.number_of-own in
    let boundary-ok = c.boundary_ok in
    let if1 = c.if-not-boundary_ok in
    let pre = c.requires in
    let find-near = c.find_near-position in
    answered_read _ _ _ _ _ neighbour_of_call.ensures number_of_call.ensures _ boundary-ok.ensures (if1.false) (position_is _ _ pre.0.indexed _ find-near.ensures.0) c.link_down.ensures
