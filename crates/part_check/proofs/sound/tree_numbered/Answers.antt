use Rattle.part_check.proofs.Checking.{numbered_below, numbered_is}
use Rattle.part_check.proofs.sound.tree_numbered.Goals as goal

pub returns-then-number-first : goal.returns-then-number-first
returns-then-number-first c = numbered_below _ _ c.tree_at.ensures _ c.number_of-number.ensures c.if-number-first.true

pub returns : goal.returns
returns c =
    let tree-at = c.tree_at in
    let number_of_call = c.number_of-number in
    numbered_is _ _ tree-at.ensures _ number_of_call.ensures _ c.to_local-local.ensures
