use Rattle.refinement.specs.Means.Trees.{tree_at}
use borrow.Author.Tests.{eq-eqb, ne_eqb}
use Rattle.refinement.proofs.walk.found.Goals as goal

pub returns-then-w-n : goal.returns-then-w-n
unfolding tree_at
returns-then-w-n c = simp (eq-eqb c.args.w.at c.args.n c.if-w-n.true)

pub returns-else-w-n : goal.returns-else-w-n
unfolding tree_at
returns-else-w-n c = simp (ne_eqb c.args.w.at c.args.n c.if-w-n.false)
