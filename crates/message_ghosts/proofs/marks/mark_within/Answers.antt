use native.Mathlib.Omega.{arith}
use mathlib.Core.Path.{sym}
use Rattle.message_ghosts.proofs.Marking.{prefix_length, prefix_empty}
use Rattle.message_ghosts.proofs.marks.mark_within.Goals as goal

pub slice_bounds-mark_by-end : goal.slice_bounds-mark_by-end
slice_bounds-mark_by-end g c = sym (prefix_length _ c.requires.3)

pub mark_by-requires : goal.mark_by-requires
mark_by-requires g c =
    let pre = c.requires in
    (pre.0, pre.1, prefix_empty _ _ pre.3 pre.2 (omega (arith, pre.3, pre.4)), pre.5)

pub returns : goal.returns
returns g c = c.mark_by.ensures
