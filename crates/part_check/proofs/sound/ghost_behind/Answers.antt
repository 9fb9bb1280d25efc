use Rattle.part_check.proofs.Checking.{behind_none, behind_read}
use Rattle.part_check.proofs.sound.ghost_behind.Goals as goal

pub returns-then-j-eq0 : goal.returns-then-j-eq0
returns-then-j-eq0 c = behind_none _ _ _ c.if-j-eq0.true

pub returns : goal.returns
returns c =
    let ghost-at2 = c.ghost_at-2 in
    let if1 = c.if-j-eq0 in
    let ghost_at = c.ghost_at in
    let number_of_call = c.number_of in
    behind_read _ _ _ ghost-at2.ensures c.number_of-2.ensures if1.false ghost_at.ensures number_of_call.ensures
