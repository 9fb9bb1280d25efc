use Rattle.columns_check.proofs.Finding.{numbered_below, numbered_is}
use Rattle.columns_check.proofs.sound.tree_numbered.Goals as goal

pub returns-then-number-first : goal.returns-then-number-first
returns-then-number-first c = numbered_below _ _ _ _ c.word-number.ensures c.if-number-first.true

pub returns : goal.returns
returns c = numbered_is _ _ _ _ c.word-number.ensures _ c.to_local-local.ensures
