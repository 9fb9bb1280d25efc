use native.Mathlib.Omega.{arith}
use Rattle.deliver_all.proofs.Parting.{front_rest, front_short, front_whole}
use Rattle.deliver_all.proofs.messages.front_length.Goals as goal

pub returns-then-n-lt32 : goal.returns-then-n-lt32
returns-then-n-lt32 c = (front_rest _ c.if-n-lt32.true, omega arith)

pub returns-then-n-size : goal.returns-then-n-size
returns-then-n-size c = (front_short _ c.if-n-lt32.false c.tree_count-trees.ensures c.ghost_count-ghosts.ensures c.ghost_at-size.ensures c.if-n-size.true, omega arith)

pub returns : goal.returns
returns c = (front_whole _ c.if-n-lt32.false c.tree_count-trees.ensures c.ghost_count-ghosts.ensures c.ghost_at-size.ensures c.if-n-size.false, omega arith)
