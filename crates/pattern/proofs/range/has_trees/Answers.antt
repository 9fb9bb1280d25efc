use Rattle.pattern.specs.Means.{has_trees}
use Rattle.pattern.proofs.range.has_trees.Goals as goal

pub returns : goal.returns
unfolding has_trees
returns c = rw (c.first_tree.ensures, c.end_tree.ensures)
