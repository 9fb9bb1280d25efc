use Rattle.offsets.specs.Table.{first_tree, first_of}
use mathlib.Core.Path.{◌∙◌, ap}
use Rattle.offsets.proofs.table.first_tree.Goals as goal

pub returns : goal.returns
unfolding first_tree
returns c = c.first_of.ensures ∙ ap first_of c.entry.ensures
