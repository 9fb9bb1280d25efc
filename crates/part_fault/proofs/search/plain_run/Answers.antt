use mathlib.Core.Path.{refl}
use native.Mathlib.Omega.{arith}
use Rattle.encoding.specs.Below.{all_below}
use Rattle.encoding.proofs.Below.{all_more, all_to}
use Rattle.part_fault.proofs.Passing.{tree_plain}
use Rattle.part_fault.proofs.search.plain_run.Goals as goal

pub returns-then-e-ne3 : goal.returns-then-e-ne3
unfolding all_below
returns-then-e-ne3 c = (omega arith, refl)

pub loop-i-init : goal.loop-i-init
unfolding all_below
loop-i-init c = refl

pub plain_tree-requires : goal.plain_tree-requires
plain_tree-requires c =
    let pre = c.requires in
    (pre.laid.long, omega (arith, pre.laid.within, pre.laid.most), omega arith)

pub returns-then-not-plain_tree : goal.returns-then-not-plain_tree
returns-then-not-plain_tree c = (omega arith, c.loop-i.invariant)

pub loop-i-preserved : goal.loop-i-preserved
loop-i-preserved c =
    let loop = c.loop-i in
    let pre = c.requires in
    let if1 = c.if-e-ne3 in
    let plain-tree = c.plain_tree in
    all_more _ _ loop.invariant (tree_plain _ _ pre _ if1.false (plain-tree.ensures (c.if-not-plain_tree.false)))

pub returns : goal.returns
returns c = (omega arith, all_to _ _ _ c.loop-i.auto.i-end (omega arith) c.loop-i.invariant)
