use Rattle.encoding.proofs.Below.{all_more, all_to}
use Rattle.encoding.specs.Below.{all_below}
use native.Mathlib.Omega.{arith}
use mathlib.Core.Path.{refl, sym, ◌∙◌}
use Rattle.faults.proofs.tree.plain_run.Goals as goal

pub returns-then-dimension-ne3 : goal.returns-then-dimension-ne3
unfolding all_below
returns-then-dimension-ne3 c = (omega arith, refl)

pub returns-then-trees-eq0 : goal.returns-then-trees-eq0
unfolding all_below
returns-then-trees-eq0 c = (omega arith, refl)

pub returns-then-not-shape_ok : goal.returns-then-not-shape_ok
unfolding all_below
returns-then-not-shape_ok c = (omega arith, refl)

pub returns-then-dimension_of-ne3 : goal.returns-then-dimension_of-ne3
unfolding all_below
returns-then-dimension_of-ne3 c = (omega arith, refl)

pub loop-k-init : goal.loop-k-init
unfolding all_below
loop-k-init c = refl

pub plain_tree-requires : goal.plain_tree-requires
plain_tree-requires c =
    let pre = c.requires in
    let shape-ok = c.shape_ok in
    let if3 = c.if-not-shape_ok in
    let dimension_of_call = c.dimension_of in
    let if4 = c.if-dimension_of-ne3 in
    let face-count = c.face_count-faces in
    (pre, omega arith, sym shape-ok.ensures ∙ if3.false, sym dimension_of_call.ensures ∙ if4.false, face-count.ensures.0, face-count.ensures.1)

pub returns-then-not-plain_tree : goal.returns-then-not-plain_tree
returns-then-not-plain_tree c = (omega arith, c.loop-k.invariant)

pub loop-k-preserved : goal.loop-k-preserved
loop-k-preserved c =
    let loop = c.loop-k in
    let if1 = c.if-dimension-ne3 in
    let plain-tree = c.plain_tree in
    all_more _ _ loop.invariant (rw if1.false (plain-tree.ensures (c.if-not-plain_tree.false)))

pub returns : goal.returns
returns c = (omega arith, all_to _ _ _ c.loop-k.auto.k-end (omega arith) c.loop-k.invariant)
