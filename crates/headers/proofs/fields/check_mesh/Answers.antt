use mathlib.Core.Path.{refl}
use borrow.Author.Tests.{le-leb, lt-leb}
use Rattle.std.proofs.lemmas.Result.{err_from_is_err_and}
use Rattle.headers.specs.Fields.{mesh_fields}
use Rattle.headers.proofs.FirstWrong.{skip, stop, last, mesh_read}
use Rattle.headers.proofs.fields.check_mesh.Goals as goal

pub returns-then-length-lt8 : goal.returns-then-length-lt8
unfolding mesh_fields
returns-then-length-lt8 c = stop _ _ (lt-leb _ _ c.if-length-lt8.true, refl)

pub returns-in_err-one_of : goal.returns-in_err-one_of
returns-in_err-one_of c =
    let p = err_from_is_err_and c.from_residual.result c.from_residual.ensures.1 in
    rw (p.1, p.2)
    (mesh_read _ c.dimension-dimension.ensures c.trees-trees.ensures c.tree_at-size.ensures c.dimension_ok-dimension_ok.ensures c.tree_count_ok-trees_ok.ensures
    (skip _ _ (le-leb _ _ c.if-length-lt8.false) (stop _ _ c.in_err-one_of.ensures)))

pub returns-in_err-one_of-2 : goal.returns-in_err-one_of-2
returns-in_err-one_of-2 c =
    let p = err_from_is_err_and c.from_residual-in_err-one_of-2.result c.from_residual-in_err-one_of-2.ensures.1 in
    rw (p.1, p.2)
    (mesh_read _ c.dimension-dimension.ensures c.trees-trees.ensures c.tree_at-size.ensures c.dimension_ok-dimension_ok.ensures c.tree_count_ok-trees_ok.ensures
    (skip _ _ (le-leb _ _ c.if-length-lt8.false) (skip _ _ c.in_ok-one_of.ensures (stop _ _ c.in_err-one_of-2.ensures))))

pub returns : goal.returns
returns c =
    mesh_read _ c.dimension-dimension.ensures c.trees-trees.ensures c.tree_at-size.ensures c.dimension_ok-dimension_ok.ensures c.tree_count_ok-trees_ok.ensures
    (skip _ _ (le-leb _ _ c.if-length-lt8.false) (skip _ _ c.in_ok-one_of.ensures (skip _ _ c.in_ok-one_of-2.ensures (last _ _ c.exactly.ensures))))
