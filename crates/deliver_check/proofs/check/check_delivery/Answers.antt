use Rattle.area.proofs.Headers.{tables_room, tabled}
use Rattle.deliver_check.proofs.Checking.{headed, ready, fails_layout, fails_run, fails_receiver, rest_checks}
use Rattle.deliver_check.proofs.check.check_delivery.Goals as goal

pub returns-then-not-in_layout : goal.returns-then-not-in_layout
returns-then-not-in_layout c =
    let pre = c.requires in
    let in_layout_call = c.in_layout in
    fails_layout _ _ pre in_layout_call.ensures (c.if-not-in_layout.true)

pub same_run-requires : goal.same_run-requires
same_run-requires c =
    let pre = c.requires in
    let in_layout_call = c.in_layout in
    headed _ _ pre in_layout_call.ensures (c.if-not-in_layout.false) (λ i. (c.type_inv.area i).fits)

pub returns-then-not-same_run : goal.returns-then-not-same_run
returns-then-not-same_run c =
    let pre = c.requires in
    let in_layout_call = c.in_layout in
    let if1 = c.if-not-in_layout in
    let same-run = c.same_run in
    fails_run _ _ pre in_layout_call.ensures (if1.false) same-run.ensures (c.if-not-same_run.true)

pub receiver_is-requires : goal.receiver_is-requires
receiver_is-requires c =
    let pre = c.requires in
    let in_layout_call = c.in_layout in
    let if1 = c.if-not-in_layout in
    headed _ _ pre in_layout_call.ensures (if1.false) (λ i. (c.type_inv.area i).fits)

pub returns-then-not-receiver_is : goal.returns-then-not-receiver_is
returns-then-not-receiver_is c =
    let pre = c.requires in
    let in_layout_call = c.in_layout in
    let if1 = c.if-not-in_layout in
    let same-run = c.same_run in
    let if2 = c.if-not-same_run in
    let receiver_is = c.receiver_is in
    fails_receiver _ _ pre in_layout_call.ensures (if1.false) same-run.ensures (if2.false) receiver_is.ensures (c.if-not-receiver_is.true)

pub tables_of-requires : goal.tables_of-requires
tables_of-requires c =
    let pre = c.requires in
    let in_layout_call = c.in_layout in
    let if1 = c.if-not-in_layout in
    let same-run = c.same_run in
    let if2 = c.if-not-same_run in
    tables_room (ready _ _ pre in_layout_call.ensures if1.false same-run.ensures if2.false (λ i. (c.type_inv.area i).fits)).header

pub check_due-requires : goal.check_due-requires
check_due-requires c =
    let pre = c.requires in
    let in_layout_call = c.in_layout in
    let if1 = c.if-not-in_layout in
    let same-run = c.same_run in
    let if2 = c.if-not-same_run in
    let r = ready _ _ pre in_layout_call.ensures if1.false same-run.ensures if2.false (λ i. (c.type_inv.area i).fits) in
    (tabled c.tables_of.ensures r.header, r)

pub returns : goal.returns
returns c =
    let pre = c.requires in
    let in_layout_call = c.in_layout in
    let if1 = c.if-not-in_layout in
    let same-run = c.same_run in
    let if2 = c.if-not-same_run in
    let receiver_is = c.receiver_is in
    let if3 = c.if-not-receiver_is in
    rest_checks _ _ pre in_layout_call.ensures (if1.false) same-run.ensures (if2.false) receiver_is.ensures (if3.false) c.check_due.ensures
