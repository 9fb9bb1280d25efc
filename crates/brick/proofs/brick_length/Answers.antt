use Rattle.brick.proofs.Answers.{length_outside, length_inside}
use mathlib.Core.Path.{sym, refl, ◌∙◌}
use Rattle.brick.proofs.brick_length.Goals as goal

pub returns-then-not-extents_ok : goal.returns-then-not-extents_ok
returns-then-not-extents_ok c = length_outside _ _ _ (sym c.extents_ok.ensures ∙ c.if-not-extents_ok.true) refl

pub mesh_length-requires : goal.mesh_length-requires
mesh_length-requires c = sym c.extents_ok.ensures ∙ c.if-not-extents_ok.false

pub returns : goal.returns
returns c = length_inside _ _ _ (sym c.extents_ok.ensures ∙ c.if-not-extents_ok.false) c.mesh_length.ensures
