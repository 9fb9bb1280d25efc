use Rattle.pattern.proofs.Laws.{row_fits}
use Rattle.pattern.specs.Means.{held_below}
use borrow.Author.Tests.{lt-ltb, le-ltb}
use native.Mathlib.Omega.{arith}
use Rattle.pattern.proofs.holder.holds_below.Goals as goal

pub returns-then-q-d : goal.returns-then-q-d
unfolding held_below
returns-then-q-d c = rw (lt-ltb _ _ c.if-q-d.true)

pub holds-requires : goal.holds-requires
holds-requires c = omega (arith, row_fits _ c.args.q c.requires.0.ranks_fit c.requires.1)

pub returns : goal.returns
unfolding held_below
returns c = rw (le-ltb _ _ c.if-q-d.false) c.holds.ensures
