use native.Mathlib.Omega.{arith}
use Rattle.message.proofs.Layouts.{ghost_fits}
use Rattle.deliver_ghosts.proofs.Marking.{beside_past, beside_read}
use Rattle.deliver_ghosts.proofs.ghosts.ghost_beside.Goals as goal

pub number_of-number-requires : goal.number_of-number-requires
number_of-number-requires c =
    let pre = c.requires in
    omega (arith, ghost_fits _ pre.0.laid _ pre.3, c.ghost_at.ensures, pre.2)

pub returns-then-below-number : goal.returns-then-below-number
returns-then-below-number c =
    let pre = c.requires in
    let ghost_at = c.ghost_at in
    let number_of_call = c.number_of-number in
    beside_past pre.0 _ pre.2 ghost_at.ensures number_of_call.ensures pre.1 c.if-below-number.true

pub returns : goal.returns
returns c =
    let pre = c.requires in
    let ghost_at = c.ghost_at in
    let number_of_call = c.number_of-number in
    let holds = c.holds in
    beside_read pre.0 _ pre.2 ghost_at.ensures number_of_call.ensures holds.ensures c.in_set.ensures
