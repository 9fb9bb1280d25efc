use Rattle.std.proofs.Common.{rules}
use Rattle.columns_read.specs.Means.{head_run}
use Rattle.columns_read.proofs.alike.heads_like.Goals as goal

pub returns : goal.returns
returns c = rw c.bare.ensures at (c.alike.ensures (head_run c.args.bs.now c.args.at c.args.step) (λ k b h. search rules))
