use native.Mathlib.Omega.{arith}
use Rattle.linked.proofs.Reading.{place_fits, held_local, held_global}
use Rattle.linked.proofs.trees.held_ok.Goals as goal

pub link_ok-requires : goal.link_ok-requires
link_ok-requires c =
    let tree-at = c.tree_at-at in
    let pre = c.requires in
    let record_at_call = c.record_at-to in
    (omega (arith, tree-at.ensures, pre.0.trees, pre.1.below), pre.2, place_fits _ _ pre.0 _ pre.3 record_at_call.ensures)

pub returns-then-x-place : goal.returns-then-x-place
returns-then-x-place c =
    let tree-at = c.tree_at-at in
    let record_at_call = c.record_at-to in
    let if1 = c.if-x-place in
    held_local _ _ _ tree-at.ensures _ _ record_at_call.ensures if1.true c.link_ok.ensures

pub link_ok-requires-2 : goal.link_ok-requires-2
link_ok-requires-2 c =
    let tree-at = c.tree_at-at in
    let pre = c.requires in
    let record_at_call = c.record_at-to in
    (omega (arith, tree-at.ensures, pre.0.trees, pre.1.below), pre.2, place_fits _ _ pre.0 _ pre.3 record_at_call.ensures)

pub returns : goal.returns
returns c =
    let tree-at = c.tree_at-at in
    let record_at_call = c.record_at-to in
    let if1 = c.if-x-place in
    let pre = c.requires in
    let number_of_call = c.number_of in
    held_global _ _ _ tree-at.ensures _ _ record_at_call.ensures if1.false pre.1 pre.3 number_of_call.ensures c.link_ok-2.ensures
