use mathlib.Core.Path.{refl}
use Rattle.std.proofs.lemmas.Result.{err_from_is_err_and}
use Rattle.faults.proofs.Positive.{kind_positive}
use Rattle.part_fault.proofs.Finding.{ghost_form, ghost_absent, ghost_linked}
use Rattle.part_fault.proofs.search.check_ghost_face.Goals as goal

pub returns-in_err-check_form : goal.returns-in_err-check_form
returns-in_err-check_form c =
    let p = err_from_is_err_and c.from_residual.result c.from_residual.ensures.1 in
    rw (p.1, p.2) (ghost_form _ _ c.requires.0 _ _ c.ghost_at-at.ensures c.number_of.ensures c.in_err-check_form.ensures (kind_positive _))

pub returns-then-not-has_face : goal.returns-then-not-has_face
returns-then-not-has_face c = ghost_absent _ _ c.requires.0 _ _ c.ghost_at-at.ensures c.number_of.ensures c.in_ok-check_form.ensures refl c.has_face.ensures c.if-not-has_face.true

pub returns : goal.returns
returns c = ghost_linked _ _ c.requires.0 _ _ c.ghost_at-at.ensures c.number_of.ensures c.in_ok-check_form.ensures refl c.has_face.ensures c.if-not-has_face.false c.check_ghost_link.ensures
