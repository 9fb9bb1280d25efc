use Rattle.std.proofs.Common.{rules}
use Rattle.columns_read.specs.Means.{side_run}
use Rattle.columns_read.proofs.Runs.{run_none}
use Rattle.columns_read.proofs.alike.sides_like.Goals as goal

pub returns-then-not-side_like : goal.returns-then-not-side_like
returns-then-not-side_like c = run_none

pub returns : goal.returns
returns c = rw c.bare.ensures at (c.alike.ensures (side_run c.args.bs.now c.args.at c.args.step c.args.face) (λ k b h. search rules))
