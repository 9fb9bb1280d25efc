use mathlib.Core.Path.{refl}
use Rattle.std.proofs.lemmas.Result.{err_from_is_err_and}
use Rattle.faults.proofs.Positive.{kind_positive}
use Rattle.part_fault.proofs.Finding.{tree_form, tree_absent, tree_linked}
use Rattle.part_fault.proofs.search.check_tree_face.Goals as goal

pub returns-in_err-check_form : goal.returns-in_err-check_form
returns-in_err-check_form c =
    let p = err_from_is_err_and c.from_residual.result c.from_residual.ensures.1 in
    rw (p.1, p.2) (tree_form _ _ c.requires.0 _ _ c.tree_at-at.ensures c.in_err-check_form.ensures (kind_positive _))

pub returns-then-not-has_face : goal.returns-then-not-has_face
returns-then-not-has_face c = tree_absent _ _ c.requires.0 _ _ c.tree_at-at.ensures c.in_ok-check_form.ensures refl c.has_face.ensures c.if-not-has_face.true

pub returns : goal.returns
returns c = tree_linked _ _ c.requires.0 _ _ c.tree_at-at.ensures c.in_ok-check_form.ensures refl c.has_face.ensures c.if-not-has_face.false c.check_tree_link.ensures
