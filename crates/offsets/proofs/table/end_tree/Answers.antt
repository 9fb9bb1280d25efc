use Rattle.offsets.specs.Table.{end_tree, magnitude}
use mathlib.Core.Path.{◌∙◌, ap}
use Rattle.offsets.proofs.table.end_tree.Goals as goal

pub returns : goal.returns
unfolding end_tree
returns c = c.magnitude.ensures ∙ ap magnitude c.entry.ensures
