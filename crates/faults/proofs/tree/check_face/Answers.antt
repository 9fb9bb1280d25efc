use mathlib.Core.Path.{refl}
use Rattle.std.proofs.lemmas.Result.{err_from_is_err_and}
use Rattle.faults.proofs.Positive.{kind_positive}
use Rattle.faults.proofs.Records.{tree_form, tree_absent, tree_outside, tree_linked}
use Rattle.faults.proofs.tree.check_face.Goals as goal

pub returns-in_err-check_form : goal.returns-in_err-check_form
returns-in_err-check_form c =
    let p = err_from_is_err_and c.from_residual.result c.from_residual.ensures.1 in
    rw (p.1, p.2) (tree_form _ _ _ _ c.tree_at-at.ensures c.in_err-check_form.ensures (kind_positive _))

pub returns-then-not-has_face : goal.returns-then-not-has_face
returns-then-not-has_face c = tree_absent _ _ _ _ c.tree_at-at.ensures c.in_ok-check_form.ensures refl c.has_face.ensures c.if-not-has_face.true

pub returns-then-trees-n : goal.returns-then-trees-n
returns-then-trees-n c =
    tree_outside _ _ _ _ c.tree_at-at.ensures c.in_ok-check_form.ensures refl c.has_face.ensures c.if-not-has_face.false c.neighbour_of-n.ensures c.if-trees-n.true

pub returns : goal.returns
returns c =
    tree_linked _ _ _ _ c.tree_at-at.ensures c.in_ok-check_form.ensures refl c.has_face.ensures c.if-not-has_face.false c.neighbour_of-n.ensures c.if-trees-n.false c.tree_at.ensures c.check_link.ensures
