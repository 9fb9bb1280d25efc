use Rattle.refinement.specs.Refinement.{children}
use borrow.Author.Tests.{le-ltb, lt-ltb}
use Rattle.refinement.proofs.walk.children.Goals as goal

pub returns-then-shape-lt2 : goal.returns-then-shape-lt2
unfolding children
returns-then-shape-lt2 c = simp (lt-ltb _ _ c.if-shape-lt2.true)

pub returns-else-shape-lt2 : goal.returns-else-shape-lt2
unfolding children
returns-else-shape-lt2 c = simp (le-ltb _ _ c.if-shape-lt2.false)
