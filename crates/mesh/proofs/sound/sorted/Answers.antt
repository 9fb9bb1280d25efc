use native.Mathlib.Omega.{arith}
use Rattle.encoding.specs.Below.{all_below, count_below}
use Rattle.encoding.proofs.Below.{all_more, all_fails}
use Rattle.mesh.specs.Means.{packed}
use Rattle.mesh.proofs.Checking.{seen_all, bit_most, count_next, leads_up_lem, leads_down_lem, listed_read, inside_not, inside_is}
use Rattle.mesh.proofs.Packing.{packed_more, packed_at, list_small}
use borrow.Author.Rules.{rules}
use Rattle.mesh.proofs.sound.sorted.Goals as goal

pub loop-face-init : goal.loop-face-init
unfolding all_below count_below packed
loop-face-init c = search rules

pub returns-then-trees-n : goal.returns-then-trees-n
returns-then-trees-n c = all_fails _ _ _ c.loop-face-test.true (inside_not _ _ c.tree_at-at.ensures _ _ _ c.neighbour_of-n.ensures c.if-trees-n.true)

pub pushed-list-requires : goal.pushed-list-requires
pushed-list-requires c = (list_small _ _ c.loop-face.invariant.3 (omega arith), omega arith)

pub loop-face-preserved : goal.loop-face-preserved
loop-face-preserved c =
    let neighbour = c.neighbour_of-n.ensures in
    let here = c.tree_at-at.ensures in
    let inv = c.loop-face.invariant in (
      all_more _ _ inv.0 (inside_is _ _ here _ _ _ neighbour c.if-trees-n.false),
      (count_next _ _ c.from-ups.ensures (leads_up_lem _ _ here _ _ neighbour) inv.1.0, omega (arith, bit_most)),
      (count_next _ _ c.from-downs.ensures (leads_down_lem _ _ here _ _ neighbour) inv.2.0, omega (arith, bit_most)),
      packed_more _ _ inv.3 (listed_read _ _ here _ _ neighbour) c.pushed-list.ensures,
    )

pub returns : goal.returns
returns c =
    let inv = c.loop-face.invariant in
    let end = c.loop-face.auto.face-end in
    let seen = seen_all _ _ _ _ _ end (omega arith) c.requires.2 inv.0 inv.1 inv.2 in
    (seen.0, seen.1, packed_at _ _ _ end (omega arith) inv.3)
