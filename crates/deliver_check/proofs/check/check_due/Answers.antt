use mathlib.Core.Path.{sym, ◌∙◌}
use Rattle.deliver_ghosts.proofs.Rooms.{layout_header}
use Rattle.deliver_check.proofs.Checking.{sender_low, sender_rank, fails_sender, fails_heard, fails_trees, fails_ghosts, fails_new, none_fails}
use Rattle.deliver_check.proofs.check.check_due.Goals as goal

pub sender_due-requires : goal.sender_due-requires
sender_due-requires c = (c.requires.0, layout_header _ c.requires.1.laid)

pub returns-then-not-sender_due : goal.returns-then-not-sender_due
returns-then-not-sender_due c = fails_sender _ _ c.sender_due.ensures (c.if-not-sender_due.true)

pub sender-requires : goal.sender-requires
sender-requires c = layout_header _ c.requires.1.laid

pub heard-requires : goal.heard-requires
heard-requires c =
    let pre = c.requires in
    let sender_due_call = c.sender_due in
    let if1 = c.if-not-sender_due in
    (pre.1.header, sender_low pre.1 sender_due_call.ensures (if1.false) c.sender.ensures)

pub returns-then-heard : goal.returns-then-heard
returns-then-heard c =
    let sender_due_call = c.sender_due in
    let if1 = c.if-not-sender_due in
    let sender = c.sender in
    let heard = c.heard in
    fails_heard _ _ sender_due_call.ensures (if1.false) sender.ensures heard.ensures c.if-heard.true

pub trees_due-requires : goal.trees_due-requires
trees_due-requires c =
    let pre = c.requires in
    let sender_due_call = c.sender_due in
    let if1 = c.if-not-sender_due in
    (pre.0, pre.1.laid, sender_rank _ _ (sym sender_due_call.ensures ∙ if1.false))

pub returns-then-not-trees_due : goal.returns-then-not-trees_due
returns-then-not-trees_due c =
    let sender_due_call = c.sender_due in
    let if1 = c.if-not-sender_due in
    let sender = c.sender in
    let heard = c.heard in
    let if2 = c.if-heard in
    let trees-due = c.trees_due in
    fails_trees _ _ sender_due_call.ensures (if1.false) sender.ensures heard.ensures if2.false trees-due.ensures (c.if-not-trees_due.true)

pub returns-then-not-ghosts_due : goal.returns-then-not-ghosts_due
returns-then-not-ghosts_due c =
    let sender_due_call = c.sender_due in
    let if1 = c.if-not-sender_due in
    let sender = c.sender in
    let heard = c.heard in
    let if2 = c.if-heard in
    let trees-due = c.trees_due in
    let if3 = c.if-not-trees_due in
    let ghosts-due = c.ghosts_due in
    fails_ghosts _ _ sender_due_call.ensures (if1.false) sender.ensures heard.ensures if2.false trees-due.ensures (if3.false) ghosts-due.ensures (c.if-not-ghosts_due.true)

pub ghosts_new-requires : goal.ghosts_new-requires
ghosts_new-requires c =
    let pre = c.requires in
    (pre.1, sym c.ghosts_due.ensures ∙ c.if-not-ghosts_due.false)

pub returns-then-not-ghosts_new : goal.returns-then-not-ghosts_new
returns-then-not-ghosts_new c =
    let sender_due_call = c.sender_due in
    let if1 = c.if-not-sender_due in
    let sender = c.sender in
    let heard = c.heard in
    let if2 = c.if-heard in
    let trees-due = c.trees_due in
    let if3 = c.if-not-trees_due in
    let ghosts-due = c.ghosts_due in
    let if4 = c.if-not-ghosts_due in
    let ghosts_new = c.ghosts_new in
    fails_new _ _ sender_due_call.ensures (if1.false) sender.ensures heard.ensures if2.false trees-due.ensures (if3.false) ghosts-due.ensures (if4.false) ghosts_new.ensures (c.if-not-ghosts_new.true)

pub returns : goal.returns
returns c =
    let sender_due_call = c.sender_due in
    let if1 = c.if-not-sender_due in
    let sender = c.sender in
    let heard = c.heard in
    let if2 = c.if-heard in
    let trees-due = c.trees_due in
    let if3 = c.if-not-trees_due in
    let ghosts-due = c.ghosts_due in
    let if4 = c.if-not-ghosts_due in
    let ghosts_new = c.ghosts_new in
    none_fails _ _ sender_due_call.ensures (if1.false) sender.ensures heard.ensures if2.false trees-due.ensures (if3.false) ghosts-due.ensures (if4.false) ghosts_new.ensures (c.if-not-ghosts_new.false)
