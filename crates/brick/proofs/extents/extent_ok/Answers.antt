use Rattle.brick.specs.Calls.{extent_ok}
use mathlib.Core.Path.{◌∙◌}
use borrow.Author.Rules.{rules}
use Rattle.brick.proofs.extents.extent_ok.Goals as goal

pub returns : goal.returns
unfolding extent_ok
returns c = c.contains.ensures.value ∙ (search rules)
