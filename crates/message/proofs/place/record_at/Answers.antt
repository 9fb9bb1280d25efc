use Rattle.message.proofs.Reading.{record_none, tree_lent, ghost_lent, none_lent}
use Rattle.message.proofs.Layouts.{size_length}
use native.Mathlib.Omega.{arith}
use mathlib.Core.Path.{sym, ◌∙◌}
use Rattle.message.proofs.place.record_at.Goals as goal

pub returns-then-not-size_laid : goal.returns-then-not-size_laid
returns-then-not-size_laid c = sym (record_none _ (sym c.size_laid.ensures ∙ c.if-not-size_laid.true) _)

pub tree_count-trees-requires : goal.tree_count-trees-requires
tree_count-trees-requires c = omega (arith, size_length _ (sym c.size_laid.ensures ∙ c.if-not-size_laid.false))

pub slice_bounds-result-end-then-i-trees : goal.slice_bounds-result-end-then-i-trees
slice_bounds-result-end-then-i-trees c =
    let size-laid = c.size_laid in
    let if1 = c.if-not-size_laid in
    let tree_count_call = c.tree_count-trees in
    omega (arith, size_length _ (sym size-laid.ensures ∙ if1.false), tree_count_call.ensures, c.tree_at-at.ensures)

pub returns-then-i-trees : goal.returns-then-i-trees
returns-then-i-trees c =
    let size-laid = c.size_laid in
    let if1 = c.if-not-size_laid in
    let tree_count_call = c.tree_count-trees in
    let if2 = c.if-i-trees in
    let tree-at = c.tree_at-at in
    tree_lent _ (sym size-laid.ensures ∙ if1.false) _ tree_count_call.ensures if2.true tree-at.ensures

pub ghost_count-requires : goal.ghost_count-requires
ghost_count-requires c = omega (arith, size_length _ (sym c.size_laid.ensures ∙ c.if-not-size_laid.false))

pub slice_bounds-result-end-then-j-ghost_count : goal.slice_bounds-result-end-then-j-ghost_count
slice_bounds-result-end-then-j-ghost_count c =
    let size-laid = c.size_laid in
    let if1 = c.if-not-size_laid in
    let tree_count_call = c.tree_count-trees in
    let ghost-count = c.ghost_count in
    omega (arith, size_length _ (sym size-laid.ensures ∙ if1.false), tree_count_call.ensures, ghost-count.ensures, c.ghost_at-at.ensures)

pub returns-then-j-ghost_count : goal.returns-then-j-ghost_count
returns-then-j-ghost_count c =
    let size-laid = c.size_laid in
    let if1 = c.if-not-size_laid in
    let tree_count_call = c.tree_count-trees in
    let ghost-count = c.ghost_count in
    let if2 = c.if-i-trees in
    let if3 = c.if-j-ghost_count in
    let ghost_at = c.ghost_at-at in
    ghost_lent _ (sym size-laid.ensures ∙ if1.false) _ tree_count_call.ensures ghost-count.ensures if2.false if3.true ghost_at.ensures

pub returns : goal.returns
returns c =
    let size-laid = c.size_laid in
    let if1 = c.if-not-size_laid in
    let tree_count_call = c.tree_count-trees in
    let ghost-count = c.ghost_count in
    let if2 = c.if-i-trees in
    let if3 = c.if-j-ghost_count in
    none_lent _ (sym size-laid.ensures ∙ if1.false) _ tree_count_call.ensures ghost-count.ensures if2.false if3.false
