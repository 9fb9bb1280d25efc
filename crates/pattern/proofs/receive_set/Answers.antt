use mathlib.Core.Path.{◌∙◌}
use Rattle.pattern.proofs.Answers.{receive_is}
use Rattle.pattern.proofs.receive_set.Goals as goal

pub returns : goal.returns
returns c = (c.rank_set.ensures.0 ∙ receive_is _ _ _ _, c.rank_set.ensures.1)
