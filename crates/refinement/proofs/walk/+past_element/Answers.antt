-- By the byte it is a leaf, a stop, or its children in a row; a walk passes no more leaves than bytes (`Passing`), so no count wraps.
use mathlib.Core.Bool.{true}
use Prim.Native.Nat.{◌+◌, ◌-◌}
use mathlib.Core.Path.{◌≡◌, refl, ap, ◌∙◌}
use native.Mathlib.Omega.{arith}
use Rattle.refinement.specs.Means.Walks.{going, siblings}
use Rattle.refinement.proofs.Steps.{met, bit_within, bit_deep, leaf_upright, walk_stops, siblings_more, others_stop, others_done}
use Rattle.refinement.proofs.walk.+past_element.Goals as goal

pub returns-in_err-meet : goal.returns-in_err-meet
returns-in_err-meet t c = rw c.from_residual.ensures (walk_stops c.args.shape _ _ _ c.args.depth c.in_err-meet.ensures)

pub returns-in-Leaf : goal.returns-in-Leaf
returns-in-Leaf t c =
    let a = c.args in
    let m = met c.in_ok-meet.ensures c.in-Leaf.is in
    let inside = bit_within a.depth a.s.now true a.w.now.at m (omega arith) in
    (leaf_upright a.shape a.s.now (going a.w.now) a.depth m refl, record { within = omega (arith, inside); few = omega (arith, c.requires.passing.few) })

pub overflow_sub-d : goal.overflow_sub-d
overflow_sub-d t c = bit_deep c.args.depth c.args.s.now true c.args.w.now.at (met c.in_ok-meet.ensures c.in-Refined.is) refl

pub loop-init : goal.loop-init
loop-init t c =
    let a = c.args in
    let m = met c.in_ok-meet.ensures c.in-Refined.is in
    let inside = bit_within a.depth a.s.now true a.w.now.at m (omega arith) in
    (ap (λ n. siblings a.shape (a.depth - 1) a.s.now n (going (record { at = a.w.now.at + 1; upright = a.w.now.upright; inverted = a.w.now.inverted }))) (omega arith), record { within = omega (arith, inside); few = omega (arith, c.requires.passing.few) })

pub past_element-requires : goal.past_element-requires
past_element-requires t c =
    let a = c.args in
    let deep = bit_deep a.depth a.s.now true a.w.now.at (met c.in_ok-meet.ensures c.in-Refined.is) refl in
    (omega (arith, deep), (c.requires.shape_value, c.loop.invariant.1))

pub returns-in_err-past_element-in-Refined : goal.returns-in_err-past_element-in-Refined
returns-in_err-past_element-in-Refined t c =
    let m = met c.in_ok-meet.ensures c.in-Refined.is in
    rw c.from_residual-in_err-past_element-in-Refined.ensures
    (others_stop _ _ _ c.args.depth _ c.requires.shape_value m refl c.children-end.ensures _ _ c.loop.invariant.0 (omega (arith, c.loop-test.true)) c.in_err-past_element-in-Refined.ensures)

pub loop-preserved : goal.loop-preserved
loop-preserved t c =
    let a = c.args in
    let left = c.children-end.result - c.loop.counter in
    let n : c.children-end.result - (c.loop.counter + 1) ≡ left - 1 = omega arith in
    (rw n (siblings_more a.shape _ a.s.now left (going c.loop.w) _ (omega (arith, c.loop-test.true)) c.in_ok-past_element-in-Refined.ensures.0) ∙ c.loop.invariant.0, c.in_ok-past_element-in-Refined.ensures.1)

pub returns-after-loop : goal.returns-after-loop
returns-after-loop t c =
    let m = met c.in_ok-meet.ensures c.in-Refined.is in
    (others_done _ _ _ c.args.depth _ c.requires.shape_value m refl c.children-end.ensures _ _ c.loop.invariant.0 (omega (arith, c.loop-test.false)), c.loop.invariant.1)
