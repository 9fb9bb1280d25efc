use Rattle.leaf_shares.proofs.LeafCounts.{cut_parts, cut_le, cut_fits}
use native.Mathlib.Omega.{arith}
use Rattle.leaf_shares.proofs.shares.cut.Goals as goal

pub overflow_mul-result : goal.overflow_mul-result
overflow_mul-result c = omega (arith, cut_fits c.args.n c.args.v c.args.w c.requires.0 c.requires.1 c.requires.2)

pub overflow_mul-result-2 : goal.overflow_mul-result-2
overflow_mul-result-2 c = omega (arith, cut_fits c.args.n c.args.v c.args.w c.requires.0 c.requires.1 c.requires.2)

pub overflow_add-result : goal.overflow_add-result
overflow_add-result c = omega (arith, cut_fits c.args.n c.args.v c.args.w c.requires.0 c.requires.1 c.requires.2)

pub overflow_add-result-2 : goal.overflow_add-result-2
overflow_add-result-2 c = omega (arith, cut_parts c.args.n c.args.v c.args.w c.requires.0, cut_le c.args.n c.args.v c.args.w c.requires.1 c.requires.0)

pub returns : goal.returns
returns c = (cut_parts c.args.n c.args.v c.args.w c.requires.0, omega (arith, cut_parts c.args.n c.args.v c.args.w c.requires.0, cut_le c.args.n c.args.v c.args.w c.requires.1 c.requires.0))
