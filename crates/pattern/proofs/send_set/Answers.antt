use mathlib.Core.Path.{◌∙◌}
use Rattle.pattern.proofs.Answers.{send_is}
use Rattle.pattern.proofs.send_set.Goals as goal

pub returns : goal.returns
returns c = (c.rank_set.ensures.0 ∙ send_is _ _ _ _, c.rank_set.ensures.1)
