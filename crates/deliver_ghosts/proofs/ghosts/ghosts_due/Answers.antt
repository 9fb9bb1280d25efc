use native.Mathlib.Omega.{arith}
use Rattle.deliver_ghosts.proofs.Rooms.{layout_header}
use Rattle.deliver_ghosts.proofs.Marking.{few_trees}
use Rattle.deliver_ghosts.proofs.ghosts.ghosts_due.Goals as goal

pub trees_below-requires : goal.trees_below-requires
trees_below-requires c = layout_header _ c.requires.0.laid

pub due_with-requires : goal.due_with-requires
due_with-requires c = (c.requires.0, c.requires.1, omega (arith, c.trees_below.ensures, c.if-trees_below-le65536.true), omega arith)

pub due_with-requires-2 : goal.due_with-requires-2
due_with-requires-2 c = (c.requires.0, c.requires.1, omega (arith, few_trees c.requires.0), omega arith)
