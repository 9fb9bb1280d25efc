use native.Mathlib.Omega.{arith}
use Rattle.probes.proofs.Listing.{has_box, counting_start, counting_more, counting_skip, counting_done, met_most}
use Rattle.probes.proofs.list.count_met.Goals as goal
use Rattle.probes.proofs.list.count_met.Goals.{then-meets, else-meets}

pub loop-i-init : goal.loop-i-init
loop-i-init c = counting_start _ _

pub meets-requires : goal.meets-requires
meets-requires c =
    let pre = c.requires in
    let tree_count_call = c.tree_count-n in
    (has_box _ _ pre _ (omega (arith, tree_count_call.ensures, c.loop-i-test.true)), pre.probe_sound)

pub overflow_add-met : goal.overflow_add-met
overflow_add-met c = omega (arith, met_most _ _ c.loop-i.invariant, c.loop-i-test.true)

pub loop-i-preserved : goal.loop-i-preserved
loop-i-preserved c =
    elim c.if-meets.branch [
      | then-meets w ↦ rw w.met-is (counting_more _ _ c.loop-i.invariant (omega (arith, c.tree_count-n.ensures)) c.meets.ensures w.if-meets.true)
      | else-meets w ↦ rw w.met-is (counting_skip _ _ c.loop-i.invariant (omega (arith, c.tree_count-n.ensures)) c.meets.ensures w.if-meets.false)
    ]

pub returns : goal.returns
returns c = counting_done _ _ c.loop-i.invariant (omega (arith, c.tree_count-n.ensures, c.loop-i-test.false))
