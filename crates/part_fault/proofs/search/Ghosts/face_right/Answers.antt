use native.Mathlib.Omega.{arith}
use Rattle.part_fault.proofs.Passing.{way_held, way_free}
use Rattle.part_fault.proofs.search.Ghosts.face_right.Goals as goal

pub link_ok-requires : goal.link_ok-requires
link_ok-requires c = (omega arith, c.requires.2, c.in-Some.ensures.0)

pub returns-in-Some : goal.returns-in-Some
returns-in-Some c = way_held _ _ c.requires.0.known _ _ _ c.ghost_at-at.ensures c.neighbour_of-k.ensures _ c.in-Some.ensures c.link_ok.ensures

pub returns : goal.returns
returns c = way_free _ _ c.requires.0.known _ _ _ c.ghost_at-at.ensures c.neighbour_of-k.ensures c.in_default.ensures c.orientation_ok.ensures
