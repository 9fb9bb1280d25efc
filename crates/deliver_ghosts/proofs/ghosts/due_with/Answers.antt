use Rattle.deliver_ghosts.proofs.Marking.{trees_fit, beside, due_is}
use Rattle.deliver_ghosts.proofs.ghosts.due_with.Goals as goal

pub mark_trees-requires : goal.mark_trees-requires
mark_trees-requires g c = trees_fit c.requires.0 _ c.requires.2

pub ghosts_beside-requires : goal.ghosts_beside-requires
ghosts_beside-requires g c = beside c.requires.0 c.requires.1 c.rank.ensures _ c.requires.2 c.mark_trees.ensures

pub returns : goal.returns
returns g c = due_is c.requires.0 c.requires.1 c.rank.ensures c.ghosts_beside.ensures
