use native.Mathlib.Omega.{arith}
use mathlib.Core.Path.{sym}
use Rattle.message_ghosts.proofs.Marking.{prefix_length}
use Rattle.message_build.proofs.Answers.{marks_room}
use Rattle.message_build.proofs.write.build_with.Goals as goal

pub slice_bounds-build_range-end : goal.slice_bounds-build_range-end
slice_bounds-build_range-end g c = sym (prefix_length _ c.requires.2)

pub build_range-requires : goal.build_range-requires
build_range-requires g c =
    let pre = c.requires in
    (pre.0, marks_room _ _ _ _ _ _ _ pre.0.0 _ (prefix_length _ pre.2) pre.1 (omega (arith, pre.2, pre.3)))

pub returns : goal.returns
returns g c = c.build_range.ensures
