use Rattle.pattern.proofs.Laws.{sender_row, empty_sent}
use mathlib.Core.Path.{sym, ◌∙◌}
use Rattle.pattern.proofs.range.sent.Goals as goal

pub has_trees-requires : goal.has_trees-requires
has_trees-requires c = sender_row c.requires

pub returns-then-not-has_trees : goal.returns-then-not-has_trees
returns-then-not-has_trees c = empty_sent _ _ _ _ c.requires (sym c.has_trees.ensures ∙ c.if-not-has_trees.true)
