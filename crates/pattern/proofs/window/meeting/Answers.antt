use Rattle.pattern.proofs.Laws.{row_fits}
use Rattle.pattern.proofs.Windows.{meeting_is}
use native.Mathlib.Omega.{arith}
use Rattle.pattern.proofs.window.meeting.Goals as goal

pub first_tree-requires : goal.first_tree-requires
first_tree-requires c = let pre = c.requires in omega (arith, row_fits _ _ pre.tables.old_ranks pre.rank_below)

pub end_tree-requires : goal.end_tree-requires
end_tree-requires c = let pre = c.requires in row_fits _ _ pre.tables.old_ranks pre.rank_below

pub returns : goal.returns
returns c =
    let pre = c.requires in
    let first_tree_call = c.first_tree in
    let first_above = c.first_above in
    let end-tree = c.end_tree in
    (meeting_is _ _ _ pre _ _ _ _ first_tree_call.ensures end-tree.ensures first_above.ensures.0 c.first_above-2.ensures.0, c.first_above-2.ensures.1)
