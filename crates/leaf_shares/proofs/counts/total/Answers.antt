use Rattle.leaf_shares.proofs.LeafCounts.{start_zero, start_total, start_bound}
use native.Mathlib.Omega.{arith}
use lib.ListN.{length}
use Rattle.leaf_shares.proofs.counts.total.Goals as goal

pub returns : goal.returns
returns c =
    let ls = c.args.leaves.now in
    (omega (arith, c.sum.ensures, start_zero ls, start_total ls), omega (arith, c.sum.ensures, start_bound ls c.requires (length ls) (omega arith)))
