use lib.Dec.{ltb}
use Rattle.leaf_shares.specs.Means.{shared_entry}
use Rattle.encoding.proofs.Below.{and_snd}
use borrow.Author.Tests.{ltb-true}
use native.Mathlib.Omega.{arith}
use Rattle.leaf_shares.proofs.table.entry_of.Goals as goal

pub overflow_add-result : goal.overflow_add-result
overflow_add-result c = omega (arith, c.requires (ltb-true _ _ (and_snd (ltb c.args.lo c.args.hi) _ c.if-lo-hi.true)))

pub returns-then-lo-hi : goal.returns-then-lo-hi
unfolding shared_entry
returns-then-lo-hi c = rw c.if-lo-hi.true (omega arith)

pub returns-else-lo-hi : goal.returns-else-lo-hi
unfolding shared_entry
returns-else-lo-hi c = rw c.if-lo-hi.false
