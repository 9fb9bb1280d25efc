use Rattle.columns_check.proofs.Finding.{target_tree, target_ghost, target_none}
use Rattle.columns_check.proofs.sound.target_of.Goals as goal

pub returns-then-j-count : goal.returns-then-j-count
returns-then-j-count c = target_tree _ _ _ _ _ c.requires.0 c.if-j-count.true

pub returns-then-j-count-2 : goal.returns-then-j-count-2
returns-then-j-count-2 c = target_ghost _ _ _ _ _ c.requires.0 c.if-j-count.false c.if-j-count-2.true c.word.ensures

pub returns : goal.returns
returns c = target_none _ _ _ c.args.i _ c.requires.0 c.if-j-count.false c.if-j-count-2.false
