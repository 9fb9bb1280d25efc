use Rattle.leaf_shares.proofs.LeafCounts.{share_is, shares_cuts, writing_none, writing_walk, writing_more, writing_done}
use Rattle.offsets.proofs.Tables.{ranks_within}
use Rattle.leaf_shares.specs.Leaves.{leaf_table}
use native.Mathlib.Omega.{arith}
use mathlib.Core.Path.{refl}
use Rattle.leaf_shares.proofs.table.write.Goals as goal

pub loop-p-init : goal.loop-p-init
loop-p-init c = writing_none (shares_cuts _ _ c.requires.ranks_fit c.requires.leaves_fit) c.requires.room

pub cut-lo-requires : goal.cut-lo-requires
cut-lo-requires c = omega (arith, ranks_within _ c.requires.ranks_fit)

pub overflow_add-p : goal.overflow_add-p
overflow_add-p c = omega (arith, ranks_within _ c.requires.ranks_fit)

pub cut-hi-requires : goal.cut-hi-requires
cut-hi-requires c = omega (arith, ranks_within _ c.requires.ranks_fit)

pub put_rank-at-requires : goal.put_rank-at-requires
put_rank-at-requires c =
    let pre = c.requires in
    let loop = c.loop-p in
    let cut = c.cut-lo in
    let r = loop.invariant.size in
    let room = pre.room in
    (writing_walk (shares_cuts _ _ pre.ranks_fit pre.leaves_fit) pre.room loop.invariant (share_is _ _ _ pre.total cut.ensures.0), omega arith)

pub loop-p-preserved : goal.loop-p-preserved
loop-p-preserved c =
    let pre = c.requires in
    let loop = c.loop-p in
    let cut = c.cut-lo in
    let cut2 = c.cut-hi in
    let put-rank = c.put_rank-at in
    writing_more (shares_cuts _ _ pre.ranks_fit pre.leaves_fit) pre.room loop.invariant c.loop-p-test.true (share_is _ _ _ pre.total cut.ensures.0) (share_is _ _ _ pre.total cut2.ensures.0) put-rank.ensures.0 put-rank.ensures.1 put-rank.ensures.2

pub returns : goal.returns
unfolding leaf_table
returns c =
    let pre = c.requires in
    let loop = c.loop-p in
    let write-u64 = c.write_u64 in
    writing_done (shares_cuts _ _ pre.ranks_fit pre.leaves_fit) pre.room loop.invariant (omega arith) refl write-u64.ensures
