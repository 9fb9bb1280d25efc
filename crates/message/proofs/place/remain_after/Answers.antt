use Rattle.message.proofs.Reading.{remain_none, none_remain, some_remain}
use Rattle.message.proofs.Layouts.{size_length}
use native.Mathlib.Omega.{arith}
use mathlib.Core.Path.{sym, ◌∙◌}
use Rattle.message.proofs.place.remain_after.Goals as goal

pub returns-then-not-size_laid : goal.returns-then-not-size_laid
returns-then-not-size_laid c = sym (remain_none _ (sym c.size_laid.ensures ∙ c.if-not-size_laid.true) _)

pub tree_count-trees-requires : goal.tree_count-trees-requires
tree_count-trees-requires c = omega (arith, size_length _ (sym c.size_laid.ensures ∙ c.if-not-size_laid.false))

pub ghost_count-ghosts-requires : goal.ghost_count-ghosts-requires
ghost_count-ghosts-requires c = omega (arith, size_length _ (sym c.size_laid.ensures ∙ c.if-not-size_laid.false))

pub returns-then-count-i : goal.returns-then-count-i
returns-then-count-i c =
    let size-laid = c.size_laid in
    let if1 = c.if-not-size_laid in
    let tree_count_call = c.tree_count-trees in
    let ghost-count = c.ghost_count-ghosts in
    none_remain _ (sym size-laid.ensures ∙ if1.false) _ tree_count_call.ensures ghost-count.ensures c.if-count-i.true

pub returns : goal.returns
returns c =
    let size-laid = c.size_laid in
    let if1 = c.if-not-size_laid in
    let tree_count_call = c.tree_count-trees in
    let ghost-count = c.ghost_count-ghosts in
    some_remain _ (sym size-laid.ensures ∙ if1.false) _ tree_count_call.ensures ghost-count.ensures c.if-count-i.false
