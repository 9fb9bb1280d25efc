use Rattle.positions.proofs.Positions.{members_split}
use native.Mathlib.Omega.{arith}
use Rattle.positions.proofs.index.members_below.Goals as goal

pub overflow_add-result : goal.overflow_add-result
overflow_add-result c = omega (arith, members_split c.requires.0 _ c.requires.1 (c.shared_slice_known-1.given _).fits c.ones.ensures.0)

pub overflow_sub-result : goal.overflow_sub-result
overflow_sub-result c = omega (arith, members_split c.requires.0 _ c.requires.1 (c.shared_slice_known-1.given _).fits c.ones.ensures.0)

pub returns : goal.returns
returns c = (omega (arith, members_split c.requires.0 _ c.requires.1 (c.shared_slice_known-1.given _).fits c.ones.ensures.0), omega arith)
