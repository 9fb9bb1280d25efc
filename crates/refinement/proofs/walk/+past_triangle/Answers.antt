-- By the byte it is a leaf, a stop, or its children in a row; a walk passes no more leaves than bytes (`Passing`), so no count wraps.
use Prim.Native.Nat.{◌-◌}
use mathlib.Core.Bool.{true}
use mathlib.Core.List.{List, [], ◌∷◌}
use mathlib.Core.Path.{refl, sym, ap, ◌∙◌}
use native.Mathlib.Omega.{arith}
use Rattle.refinement.specs.Means.Walks.{Cursor, kind_of, going}
use Rattle.refinement.specs.declared.walk.Triangle.{Triangle}
use Rattle.refinement.proofs.Steps.{met, bit_within, bit_deep, leaf_upright, leaf_inverted, walk_stops, row_more, row_stop, row_done, triangle_row}
use Rattle.refinement.proofs.walk.+past_triangle.Goals as goal

pub returns-in_err-meet : goal.returns-in_err-meet
returns-in_err-meet t c = rw c.from_residual.ensures (walk_stops 1 _ _ _ c.args.depth c.in_err-meet.ensures)

pub returns-in-Upright : goal.returns-in-Upright
returns-in-Upright t c =
    let a = c.args in
    let m = met c.in_ok-meet.ensures c.in-Leaf.is in
    let inside = bit_within a.depth a.s.now true a.w.now.at m (omega arith) in
    (rw (ap kind_of c.in-Upright.is) (leaf_upright 1 a.s.now _ a.depth m refl), record { within = omega (arith, inside); few = omega (arith, c.requires.few) })

pub returns-in-Inverted : goal.returns-in-Inverted
returns-in-Inverted t c =
    let a = c.args in
    let m = met c.in_ok-meet.ensures c.in-Leaf.is in
    let inside = bit_within a.depth a.s.now true a.w.now.at m (omega arith) in
    (rw (ap kind_of c.in-Inverted.is) (leaf_inverted 1 a.s.now _ a.depth m refl), record { within = omega (arith, inside); few = omega (arith, c.requires.few) })

pub overflow_sub-d : goal.overflow_sub-d
overflow_sub-d t c = bit_deep c.args.depth c.args.s.now true c.args.w.now.at (met c.in_ok-meet.ensures c.in-Refined.is) refl

pub loop-child-init : goal.loop-child-init
loop-child-init t c =
    let a = c.args in
    let m = met c.in_ok-meet.ensures c.in-Refined.is in
    let inside = bit_within a.depth a.s.now true a.w.now.at m (omega arith) in
    (refl, record { within = omega (arith, inside); few = omega (arith, c.requires.few) })

pub past_triangle-requires : goal.past_triangle-requires
past_triangle-requires t c =
    let a = c.args in
    let deep = bit_deep a.depth a.s.now true a.w.now.at (met c.in_ok-meet.ensures c.in-Refined.is) refl in
    (omega (arith, deep), c.loop-child.invariant.1)

pub returns-in_err-past_triangle-in-Refined : goal.returns-in_err-past_triangle-in-Refined
returns-in_err-past_triangle-in-Refined t c =
    let a = c.args in
    let m = met c.in_ok-meet.ensures c.in-Refined.is in
    let kids : List Triangle = a.stands ∷ a.stands ∷ c.turned.result ∷ a.stands ∷ [] in
    let stop = row_stop (a.depth - 1) a.s.now kids c.loop-child.child-index (going c.loop-child.w) c.loop-child-test.true c.in_err-past_triangle-in-Refined.ensures in
    rw c.from_residual-in_err-past_triangle-in-Refined.ensures
    (sym (ap (λ (v : Cursor). v.ok) (c.loop-child.invariant.0 ∙ triangle_row a.stands c.turned.result a.s.now (going a.w.now) a.depth m c.turned.ensures)) ∙ stop)

pub loop-child-preserved : goal.loop-child-preserved
loop-child-preserved t c =
    let a = c.args in
    let kids : List Triangle = a.stands ∷ a.stands ∷ c.turned.result ∷ a.stands ∷ [] in
    (row_more (a.depth - 1) a.s.now kids c.loop-child.child-index (going c.loop-child.w) c.loop-child-test.true c.in_ok-past_triangle-in-Refined.ensures.0 ∙ c.loop-child.invariant.0, c.in_ok-past_triangle-in-Refined.ensures.1)

pub returns-after-loop-child : goal.returns-after-loop-child
returns-after-loop-child t c =
    let a = c.args in
    let m = met c.in_ok-meet.ensures c.in-Refined.is in
    let kids : List Triangle = a.stands ∷ a.stands ∷ c.turned.result ∷ a.stands ∷ [] in (
      sym (row_done (a.depth - 1) a.s.now kids c.loop-child.child-index (going c.loop-child.w) c.loop-child-test.false)
          ∙ (c.loop-child.invariant.0 ∙ triangle_row a.stands c.turned.result a.s.now (going a.w.now) a.depth m c.turned.ensures),
      c.loop-child.invariant.1,
    )
