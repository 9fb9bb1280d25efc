use mathlib.Core.Path.{sym, ◌∙◌}
use Rattle.mesh.proofs.Checking.{not_answered, is_answered}
use Rattle.mesh.proofs.sound.link_down.Goals as goal

pub returns-then-not-answered_there : goal.returns-then-not-answered_there
returns-then-not-answered_there c =
    not_answered _ _ _ _ _ _ _ _ c.code_of-code.ensures c.parted-across.ensures.0 c.parted-across.ensures.1.0
    (sym c.answered_there.ensures ∙ c.if-not-answered_there.true)

pub returns : goal.returns
returns c =
    rw (c.corners_fit.ensures, c.shape_of.ensures, c.shape_of-2.ensures)
    (is_answered _ _ _ _ _ _ _ _ c.code_of-code.ensures c.parted-across.ensures.0 c.parted-across.ensures.1.0
    (sym c.answered_there.ensures ∙ c.if-not-answered_there.false))
