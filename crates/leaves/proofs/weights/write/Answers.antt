use Prim.Native.Nat.{◌+◌}
use mathlib.Core.Path.{◌≡◌, sym, refl}
use lib.ListN.{get_or}
use native.Mathlib.Omega.{arith}
use Rattle.leaves.specs.Weighted.{weight_before, weighted_table}
use Rattle.leaves.proofs.WeightedShares.{weight_none, weight_more, weight_le, weight_some, weight_fits, weighted_none, weighted_is, weighted_cuts}
use Rattle.leaf_shares.proofs.LeafCounts.{writing_none, writing_walk, writing_more, writing_done}
use Rattle.leaves.proofs.weights.write.Goals as goal

pub total-w-requires : goal.total-w-requires
total-w-requires c = c.requires.ranks_fit

pub loop-p-init : goal.loop-p-init
loop-p-init c =
    let pre = c.requires in
    (writing_none (weighted_cuts _ _ pre.weights_fit pre.leaves_fit) pre.room, sym (weight_none _), sym (weighted_none _ _))

pub overflow_add-v : goal.overflow_add-v
overflow_add-v c =
    let ws = c.args.weights.now in
    let loop = c.loop-p in
    let pre = c.requires in
    omega (arith, loop.invariant.1, weight_more ws loop.p, weight_le ws (loop.p + 1) (omega arith), weight_fits _ pre.weights_fit pre.ranks_fit)

pub cut-hi-requires : goal.cut-hi-requires
cut-hi-requires c =
    let ws = c.args.weights.now in
    let loop = c.loop-p in
    let pre = c.requires in
    let m : (loop.v + get_or ws loop.p 0) ≡ weight_before ws (loop.p + 1) = omega (arith, loop.invariant.1, weight_more ws loop.p) in
    omega (arith, c.total-w.ensures, weight_le ws (loop.p + 1) (omega arith), weight_some _ pre.weights_fit, weight_fits _ pre.weights_fit pre.ranks_fit)

pub put_rank-at-requires : goal.put_rank-at-requires
put_rank-at-requires c =
    let loop = c.loop-p in
    let pre = c.requires in
    let r = loop.invariant.0.size in
    let room = pre.room in
    (writing_walk (weighted_cuts _ _ pre.weights_fit pre.leaves_fit) pre.room loop.invariant.0 loop.invariant.2, omega arith)

pub loop-p-preserved : goal.loop-p-preserved
loop-p-preserved c =
    let ws = c.args.weights.now in
    let loop = c.loop-p in
    let pre = c.requires in
    let put-rank = c.put_rank-at in
    let m : (loop.v + get_or ws loop.p 0) ≡ weight_before ws (loop.p + 1) = omega (arith, loop.invariant.1, weight_more ws loop.p) in
    let s = weighted_is _ _ (loop.p + 1) pre.total m c.total-w.ensures c.cut-hi.ensures.0 in
    (writing_more (weighted_cuts _ _ pre.weights_fit pre.leaves_fit) pre.room loop.invariant.0 c.loop-p-test.true loop.invariant.2 s put-rank.ensures.0 put-rank.ensures.1 put-rank.ensures.2, m, s)

pub returns : goal.returns
unfolding weighted_table
returns c =
    let pre = c.requires in
    writing_done (weighted_cuts _ _ pre.weights_fit pre.leaves_fit) pre.room c.loop-p.invariant.0 (omega arith) refl c.write_u64.ensures
