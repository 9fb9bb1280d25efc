use native.Mathlib.Omega.{arith}
use Rattle.regions.proofs.Counting.{cleared, count_start, region_is, same_long, region_there, entry_most, count_next, count_done}
use Rattle.regions.proofs.count.count_trees.Goals as goal

pub tree_count-n-requires : goal.tree_count-n-requires
tree_count-n-requires c = omega (arith, c.requires.fits)

pub loop-i-init : goal.loop-i-init
loop-i-init c =
    let pre = c.requires in
    let clear = cleared c.args.out.now 4096 c.requires.room (c.fill.ensures.after (λ y e. e)) in
    count_start _ _ _ pre clear

pub region_of-region-requires : goal.region_of-region-requires
region_of-region-requires c =
    let pre = c.requires in
    let tree_count_call = c.tree_count-n in
    let loop-test = c.loop-i-test in
    let tree-at = c.tree_at in
    omega (arith, pre.fits, tree_count_call.ensures, loop-test.true, tree-at.ensures)

pub bounds-out-region : goal.bounds-out-region
bounds-out-region c =
    let clear = cleared c.args.out.now 4096 c.requires.room (c.fill.ensures.after (λ y e. e)) in
    let pre = c.requires in
    let tree_count_call = c.tree_count-n in
    let loop = c.loop-i in
    let loop-test = c.loop-i-test in
    let tree-at = c.tree_at in
    let region-of = c.region_of-region in
    region_there _ _ _ pre clear loop.invariant (omega (arith, tree_count_call.ensures, loop-test.true)) (region_is _ _ _ pre clear _ region-of.ensures tree-at.ensures)

pub overflow_add-out : goal.overflow_add-out
overflow_add-out c =
    let clear = cleared c.args.out.now 4096 c.requires.room (c.fill.ensures.after (λ y e. e)) in
    let pre = c.requires in
    let tree_count_call = c.tree_count-n in
    let loop = c.loop-i in
    let loop-test = c.loop-i-test in
    let tree-at = c.tree_at in
    let region-of = c.region_of-region in
    omega (arith, entry_most _ _ _ pre clear loop.invariant (omega (arith, tree_count_call.ensures, loop-test.true)) (region_is _ _ _ pre clear _ region-of.ensures tree-at.ensures))

pub bounds-out-region-in-loop-i : goal.bounds-out-region-in-loop-i
bounds-out-region-in-loop-i c =
    let clear = cleared c.args.out.now 4096 c.requires.room (c.fill.ensures.after (λ y e. e)) in
    let pre = c.requires in
    let tree_count_call = c.tree_count-n in
    let loop = c.loop-i in
    let loop-test = c.loop-i-test in
    let tree-at = c.tree_at in
    let region-of = c.region_of-region in
    region_there _ _ _ pre clear loop.invariant (omega (arith, tree_count_call.ensures, loop-test.true)) (region_is _ _ _ pre clear _ region-of.ensures tree-at.ensures)

pub loop-i-preserved : goal.loop-i-preserved
loop-i-preserved c =
    let clear = cleared c.args.out.now 4096 c.requires.room (c.fill.ensures.after (λ y e. e)) in
    let pre = c.requires in
    let tree_count_call = c.tree_count-n in
    let loop = c.loop-i in
    let loop-test = c.loop-i-test in
    let tree-at = c.tree_at in
    let region-of = c.region_of-region in
    count_next _ _ _ pre clear loop.invariant (omega (arith, tree_count_call.ensures, loop-test.true)) (region_is _ _ _ pre clear _ region-of.ensures tree-at.ensures) (omega arith)

pub shape_of-out : goal.shape_of-out
shape_of-out c =
    let clear = cleared c.args.out.now 4096 c.requires.room (c.fill.ensures.after (λ y e. e)) in
    let pre = c.requires in
    let loop = c.loop-i in
    same_long _ _ _ pre clear loop.invariant

pub returns : goal.returns
returns c =
    let clear = cleared c.args.out.now 4096 c.requires.room (c.fill.ensures.after (λ y e. e)) in
    let pre = c.requires in
    let tree_count_call = c.tree_count-n in
    let loop = c.loop-i in
    let loop-test = c.loop-i-test in
    count_done _ _ _ pre clear loop.invariant tree_count_call.ensures (omega arith)
