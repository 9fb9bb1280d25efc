use native.Mathlib.Omega.{arith}
use mathlib.Core.Path.{refl, sym, ◌∙◌}
use Rattle.encoding.proofs.Below.{all_more}
use Rattle.encoding.specs.Below.{all_below}
use Rattle.probes.proofs.Listing.{has_tree, boxes_fail, boxes_pass}
use Rattle.probes.proofs.list.boxes_ok.Goals as goal

pub loop-i-init : goal.loop-i-init
unfolding all_below
loop-i-init c = refl

pub box_ok-requires : goal.box_ok-requires
box_ok-requires c = has_tree _ c.requires _ (omega (arith, c.tree_count-n.ensures, c.loop-i-test.true))

pub returns-then-not-box_ok : goal.returns-then-not-box_ok
returns-then-not-box_ok c =
    let tree_count_call = c.tree_count-n in
    let loop-test = c.loop-i-test in
    let box-ok = c.box_ok in
    boxes_fail _ _ (omega (arith, tree_count_call.ensures, loop-test.true)) box-ok.ensures (c.if-not-box_ok.true)

pub loop-i-preserved : goal.loop-i-preserved
loop-i-preserved c = all_more _ _ c.loop-i.invariant (sym c.box_ok.ensures ∙ c.if-not-box_ok.false)

pub returns : goal.returns
returns c = boxes_pass _ _ (omega (arith, c.tree_count-n.ensures)) (omega (arith, c.tree_count-n.ensures, c.loop-i-test.false)) c.loop-i.invariant
