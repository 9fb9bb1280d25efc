use Rattle.plan_text.specs.Plan.{plan_ranks_ok}
use borrow.Author.Rules.{rules}
use Rattle.plan_text.proofs.buffers.plan_ranks_ok.Goals as goal

pub returns : goal.returns
unfolding plan_ranks_ok
returns c = search rules
