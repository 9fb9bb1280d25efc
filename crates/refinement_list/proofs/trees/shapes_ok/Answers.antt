use Rattle.refinement_list.specs.Calls.{shapes_ok}
use Rattle.encoding.proofs.Below.{all_more, all_fails, all_to}
use Rattle.encoding.specs.Below.{all_below}
use mathlib.Core.Path.{sym, ◌∙◌, refl}
use Rattle.refinement_list.proofs.trees.shapes_ok.Goals as goal

pub loop-shape-init : goal.loop-shape-init
unfolding all_below
loop-shape-init c = refl

pub returns-then-not-shape_ok : goal.returns-then-not-shape_ok
unfolding shapes_ok
returns-then-not-shape_ok c = sym (all_fails _ _ c.loop-shape.shape-index c.loop-shape-test.true (sym c.shape_ok.ensures ∙ c.if-not-shape_ok.true))

pub loop-shape-preserved : goal.loop-shape-preserved
loop-shape-preserved c = all_more _ _ c.loop-shape.invariant (sym c.shape_ok.ensures ∙ c.if-not-shape_ok.false)

pub returns : goal.returns
unfolding shapes_ok
returns c = sym (all_to _ _ c.loop-shape.shape-index c.loop-shape.auto.shape-index-end c.loop-shape-test.false c.loop-shape.invariant)
