use native.Mathlib.Omega.{arith}
use mathlib.Core.Path.{sym, ◌∙◌}
use Rattle.area.proofs.Tabled.{tabled_pair}
use Rattle.deliver_ghosts.proofs.Rooms.{layout_header, layout_room}
use Rattle.deliver_check.proofs.Checking.{trees_other, trees_read}
use Rattle.deliver_check.proofs.check.trees_due.Goals as goal

pub sender-sender-requires : goal.sender-sender-requires
sender-sender-requires c = layout_header _ c.requires.1

pub sent-sent-requires : goal.sent-sent-requires
sent-sent-requires c =
    let pre = c.requires in
    let sender = c.sender-sender in
    tabled_pair pre.0 (omega (arith, sender.ensures, pre.2)) c.rank.ensures

pub tree_count-requires : goal.tree_count-requires
tree_count-requires c = layout_header _ c.requires.1

pub returns-then-tree_count-count : goal.returns-then-tree_count-count
returns-then-tree_count-count c =
    let sender = c.sender-sender in
    let pre = c.requires in
    let rank = c.rank in
    let tree_count_call = c.tree_count in
    let sent = c.sent-sent in
    trees_other _ _ sender.ensures pre.0 rank.ensures tree_count_call.ensures sent.ensures.1 c.if-tree_count-count.true

pub trees_from-requires : goal.trees_from-requires
trees_from-requires c =
    let pre = c.requires in
    let tree_count_call = c.tree_count in
    layout_room _ pre.1 (sym c.if-tree_count-count.false ∙ tree_count_call.ensures)

pub returns : goal.returns
returns c =
    let sender = c.sender-sender in
    let pre = c.requires in
    let rank = c.rank in
    let tree_count_call = c.tree_count in
    let sent = c.sent-sent in
    let if1 = c.if-tree_count-count in
    trees_read _ _ sender.ensures pre.0 rank.ensures tree_count_call.ensures sent.ensures.1 if1.false sent.ensures.0 c.trees_from.ensures
