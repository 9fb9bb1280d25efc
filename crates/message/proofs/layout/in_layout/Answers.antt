use Rattle.message.proofs.Checking.{trees_fit, ghosts_fit, trees_fail, layout_read}
use Rattle.message.proofs.Layouts.{size_length}
use Rattle.message.specs.Layout.{in_layout}
use native.Mathlib.Omega.{arith}
use mathlib.Core.Path.{sym, ◌∙◌}
use Rattle.message.proofs.layout.in_layout.Goals as goal

pub returns-then-not-size_laid : goal.returns-then-not-size_laid
unfolding in_layout
returns-then-not-size_laid c = simp (← c.size_laid.ensures, c.if-not-size_laid.true)

pub dimension-dimension-requires : goal.dimension-dimension-requires
dimension-dimension-requires c = omega (arith, size_length _ (sym c.size_laid.ensures ∙ c.if-not-size_laid.false))

pub trees_below-below-requires : goal.trees_below-below-requires
trees_below-below-requires c = omega (arith, size_length _ (sym c.size_laid.ensures ∙ c.if-not-size_laid.false))

pub tree_count-trees-requires : goal.tree_count-trees-requires
tree_count-trees-requires c = omega (arith, size_length _ (sym c.size_laid.ensures ∙ c.if-not-size_laid.false))

pub ghost_count-ghosts-requires : goal.ghost_count-ghosts-requires
ghost_count-ghosts-requires c = omega (arith, size_length _ (sym c.size_laid.ensures ∙ c.if-not-size_laid.false))

pub records_laid-requires : goal.records_laid-requires
records_laid-requires c =
    let size-laid = c.size_laid in
    let if1 = c.if-not-size_laid in
    let tree_count_call = c.tree_count-trees in
    let dimension = c.dimension-dimension in
    let trees-below = c.trees_below-below in
    (trees_fit _ (sym size-laid.ensures ∙ if1.false) tree_count_call.ensures, dimension.ensures, trees-below.ensures)

pub returns-then-not-records_laid : goal.returns-then-not-records_laid
returns-then-not-records_laid c = trees_fail _ c.tree_count-trees.ensures c.records_laid.ensures (c.if-not-records_laid.true)

pub records_laid-requires-2 : goal.records_laid-requires-2
records_laid-requires-2 c =
    let size-laid = c.size_laid in
    let if1 = c.if-not-size_laid in
    let tree_count_call = c.tree_count-trees in
    let ghost-count = c.ghost_count-ghosts in
    let dimension = c.dimension-dimension in
    let trees-below = c.trees_below-below in
    (ghosts_fit _ (sym size-laid.ensures ∙ if1.false) tree_count_call.ensures ghost-count.ensures c.ghost_at.ensures, dimension.ensures, trees-below.ensures)

pub returns : goal.returns
returns c =
    let size-laid = c.size_laid in
    let if1 = c.if-not-size_laid in
    let tree_count_call = c.tree_count-trees in
    let ghost-count = c.ghost_count-ghosts in
    let ghost_at = c.ghost_at in
    let records-laid = c.records_laid in
    let if2 = c.if-not-records_laid in
    layout_read _ (sym size-laid.ensures ∙ if1.false) tree_count_call.ensures ghost-count.ensures ghost_at.ensures records-laid.ensures (if2.false) c.records_laid-2.ensures
