use Rattle.probes.proofs.Listing.{has_box, list_start, list_most, list_all, list_length, list_done, list_more, list_skip}
use native.Mathlib.Omega.{arith}
use Rattle.probes.proofs.list.write.Goals as goal
use Rattle.probes.proofs.list.write.Goals.{then-meets, else-meets}

pub loop-i-init : goal.loop-i-init
loop-i-init c = list_start _ _ _ _ c.requires

pub meets-requires : goal.meets-requires
meets-requires c = (has_box _ _ c.requires.comparable _ (omega (arith, c.tree_count-n.ensures)), c.requires.comparable.probe_sound)

pub bounds-out-count : goal.bounds-out-count
bounds-out-count c = omega (arith, list_most _ _ _ _ c.requires c.loop-i.invariant, list_length _ _ _ _ c.requires c.loop-i.invariant)

pub loop-i-preserved : goal.loop-i-preserved
loop-i-preserved c =
    let most = list_most _ _ _ _ c.requires c.loop-i.invariant in
    elim c.if-meets.branch [
      | then-meets w ↦ rw (w.out-is, w.count-is) (list_more _ _ _ _ c.requires c.loop-i.invariant (omega arith) c.meets.ensures w.if-meets.true)
      | else-meets w ↦ rw (w.out-is, w.count-is) (list_skip _ _ _ _ c.requires c.loop-i.invariant (omega arith) c.meets.ensures w.if-meets.false)
    ]

pub offset_bounds-out-count : goal.offset_bounds-out-count
offset_bounds-out-count c = omega (arith, list_most _ _ _ _ c.requires c.loop-i.invariant)

pub overflow_add-count : goal.overflow_add-count
overflow_add-count c = omega (arith, list_most _ _ _ _ c.requires c.loop-i.invariant)

pub returns-then-count-end : goal.returns-then-count-end
returns-then-count-end c = list_done _ _ _ _ c.requires c.loop-i.invariant (omega arith)

pub returns-after-loop-i : goal.returns-after-loop-i
returns-after-loop-i c = list_done _ _ _ _ c.requires c.loop-i.invariant (list_all _ _ _ _ c.requires c.loop-i.invariant (omega (arith, c.tree_count-n.ensures)))
