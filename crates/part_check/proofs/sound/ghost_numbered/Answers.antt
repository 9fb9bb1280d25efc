use Rattle.part_check.proofs.Checking.{ghost_numbered_is}
use Rattle.part_check.proofs.sound.ghost_numbered.Goals as goal

pub returns : goal.returns
returns c =
    let ghost_at = c.ghost_at in
    let number_of_call = c.number_of-number in
    let in_range_call = c.in_range in
    ghost_numbered_is _ _ _ ghost_at.ensures number_of_call.ensures _ _ in_range_call.ensures c.ghost_behind.ensures
