use mathlib.Core.Path.{refl}
use native.Mathlib.Omega.{arith}
use Rattle.encoding.specs.Below.{count_below}
use Rattle.mesh.specs.Means.{packed}
use Rattle.mesh.proofs.Checking.{bit_most, count_next}
use Rattle.mesh.proofs.Packing.{packed_more, packed_at, list_small}
use Rattle.linked.proofs.Reading.{up_is, listed_is, down_is, count_at}
use Rattle.linked.proofs.trees.sorted.Goals as goal

pub loop-face-init : goal.loop-face-init
unfolding packed count_below
loop-face-init c = (refl, (refl, omega arith), (refl, omega arith))

pub pushed-list-requires : goal.pushed-list-requires
pushed-list-requires c = (list_small _ _ c.loop-face.invariant.0 (omega arith), omega arith)

pub loop-face-preserved : goal.loop-face-preserved
loop-face-preserved c =
    let loop = c.loop-face in
    let tree-at = c.tree_at-at in
    let neighbour_of_call = c.neighbour_of-n in
    let leads_up_call = c.leads_up-up in
    let pushed = c.pushed-list in
    let leads-back = c.leads_back-back in (
      packed_more _ _ loop.invariant.0 (listed_is _ _ _ tree-at.ensures _ neighbour_of_call.ensures leads_up_call.ensures) pushed.ensures,
      (count_next _ _ c.from-ups.ensures (up_is _ _ _ tree-at.ensures _ neighbour_of_call.ensures leads_up_call.ensures) loop.invariant.1.0, omega (arith, bit_most)),
      (count_next _ _ c.from-downs.ensures (down_is _ _ _ tree-at.ensures _ neighbour_of_call.ensures leads_up_call.ensures leads-back.ensures) loop.invariant.2.0, omega (arith, bit_most)),
    )

pub returns : goal.returns
returns c =
    let inv = c.loop-face.invariant in
    let end = c.loop-face.auto.face-end in
    (packed_at _ _ _ end (omega arith) inv.0, count_at _ _ _ end (omega arith) inv.1, count_at _ _ _ end (omega arith) inv.2)
