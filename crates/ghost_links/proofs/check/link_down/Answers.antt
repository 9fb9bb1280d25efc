use Rattle.mesh.proofs.Checking.{not_answered, is_answered}
use mathlib.Core.Path.{sym, ◌∙◌}
use Rattle.ghost_links.proofs.check.link_down.Goals as goal

pub returns-then-not-answered_there : goal.returns-then-not-answered_there
returns-then-not-answered_there c =
    let code_of_call = c.code_of-code in
    let parted = c.parted-across in
    let answered-there = c.answered_there in
    not_answered _ _ _ _ _ _ _ _ code_of_call.ensures parted.ensures.0 parted.ensures.1.0 (sym answered-there.ensures ∙ c.if-not-answered_there.true)

pub returns : goal.returns
returns c =
    let shape_of = c.shape_of in
    let shape-of2 = c.shape_of-2 in
    let code_of_call = c.code_of-code in
    let parted = c.parted-across in
    let answered-there = c.answered_there in
    let if1 = c.if-not-answered_there in
    rw (c.corners_fit.ensures, shape_of.ensures, shape-of2.ensures) (is_answered _ _ _ _ _ _ _ _ code_of_call.ensures parted.ensures.0 parted.ensures.1.0 (sym answered-there.ensures ∙ if1.false))
