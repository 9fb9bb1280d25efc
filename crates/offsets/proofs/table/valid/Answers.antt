use Rattle.offsets.proofs.OnePass.{not_from_zero, not_in_limits, entries_decide, trees_read}
use Rattle.offsets.specs.Limits.{tree_count_ok}
use mathlib.Core.Path.{sym, ◌∙◌, ap}
use Rattle.offsets.proofs.table.valid.Goals as goal

pub returns-then-entry-ne0 : goal.returns-then-entry-ne0
returns-then-entry-ne0 c = sym (not_from_zero _ (λ e. c.if-entry-ne0.true (c.entry.ensures ∙ e)))

pub returns-then-not-tree_count_ok : goal.returns-then-not-tree_count_ok
returns-then-not-tree_count_ok c =
    let ranks = c.ranks-p in
    let entry = c.entry-trees in
    let tree-count-ok = c.tree_count_ok in
    let k = trees_read _ _ _ ranks.ensures.0 entry.ensures in sym (not_in_limits _ (ap tree_count_ok (sym k) ∙ (sym tree-count-ok.ensures ∙ c.if-not-tree_count_ok.true)))

pub returns : goal.returns
returns c =
    let ranks = c.ranks-p in
    let entry = c.entry-trees in
    let entry2 = c.entry in
    let if1 = c.if-entry-ne0 in
    let tree-count-ok = c.tree_count_ok in
    let if2 = c.if-not-tree_count_ok in
    let k = trees_read _ _ _ ranks.ensures.0 entry.ensures in entries_decide _ _ _ _ ranks.ensures.0 k (sym entry2.ensures ∙ if1.false) (sym tree-count-ok.ensures ∙ if2.false) c.entries_ok.ensures
