use Rattle.std.proofs.lemmas.Result.{err_from_is_err_and}
use mathlib.Core.Path.{sym, ◌∙◌}
use native.Mathlib.Omega.{arith}
use Rattle.refinement_list.specs.Calls.{trees_ok}
use Rattle.refinement_list.proofs.Lists.{refused_trees, refused_shapes, refused_strings, refused_room, all_counted, strings_ready, trees_same, trees_few}
use Rattle.refinement_list.proofs.leaf_counts.Goals as goal

pub returns-then-not-trees_ok : goal.returns-then-not-trees_ok
unfolding trees_ok
returns-then-not-trees_ok c = refused_trees _ c.args.lengths.now _ _ (sym c.trees_ok.ensures ∙ c.if-not-trees_ok.true)

pub returns-then-not-shapes_ok : goal.returns-then-not-shapes_ok
unfolding trees_ok
returns-then-not-shapes_ok c =
    refused_shapes _ c.args.lengths.now _ _ (sym c.trees_ok.ensures ∙ c.if-not-trees_ok.false) (sym c.shapes_ok.ensures ∙ c.if-not-shapes_ok.true)

pub check_strings-requires : goal.check_strings-requires
unfolding trees_ok
check_strings-requires c = trees_same _ c.args.lengths.now c.args.bits.now (sym c.trees_ok.ensures ∙ c.if-not-trees_ok.false)

pub returns-in_err-check_strings : goal.returns-in_err-check_strings
unfolding trees_ok
returns-in_err-check_strings c =
    let p = err_from_is_err_and c.from_residual.result c.from_residual.ensures.1 in
    rw (p.1, p.2)
    (refused_strings _ _ _ _ (sym c.trees_ok.ensures ∙ c.if-not-trees_ok.false) (sym c.shapes_ok.ensures ∙ c.if-not-shapes_ok.false) _ c.in_err-check_strings.ensures)

pub returns-then-out-shapes : goal.returns-then-out-shapes
unfolding trees_ok
returns-then-out-shapes c =
    let trees = sym c.trees_ok.ensures ∙ c.if-not-trees_ok.false in
    refused_room _ _ _ _ trees (sym c.shapes_ok.ensures ∙ c.if-not-shapes_ok.false) (strings_ready _ _ _ trees c.in_ok-check_strings.ensures) c.if-out-shapes.true

pub write-requires : goal.write-requires
unfolding trees_ok
write-requires c = record {
  walkable = strings_ready _ _ _ (sym c.trees_ok.ensures ∙ c.if-not-trees_ok.false) c.in_ok-check_strings.ensures;
  shapes_in_bounds = c.if-out-shapes.false;
}

pub overflow_cast-result : goal.overflow_cast-result
unfolding trees_ok
overflow_cast-result c = omega (arith, trees_few _ c.args.lengths.now c.args.bits.now (sym c.trees_ok.ensures ∙ c.if-not-trees_ok.false))

pub returns : goal.returns
unfolding trees_ok
returns c =
    let trees = sym c.trees_ok.ensures ∙ c.if-not-trees_ok.false in
    all_counted _ _ _ _ trees (sym c.shapes_ok.ensures ∙ c.if-not-shapes_ok.false) (strings_ready _ _ _ trees c.in_ok-check_strings.ensures) c.write.ensures c.if-out-shapes.false
