use Rattle.build_all.proofs.Rows.{range_to, none_length, none_written, some_room, some_length, some_written}
use Rattle.build_all.proofs.each.write_to.Goals as goal

pub returns-then-n-eq0 : goal.returns-then-n-eq0
returns-then-n-eq0 c =
    let pre = c.requires in
    let sent-near = c.sent_near-sent in
    (none_length pre.0 _ sent-near.ensures.1 c.if-n-eq0.true, none_written pre.0 _ _ sent-near.ensures.1 c.if-n-eq0.true)

pub going-g-requires : goal.going-g-requires
going-g-requires c = ((range_to c.requires.0 c.sent_near-sent.ensures.0 c.sent_near-sent.ensures.1, c.requires.0.sender.bytes), c.requires.0.sender.room)

pub write_message-requires : goal.write_message-requires
write_message-requires c =
    let pre = c.requires in
    let sent-near = c.sent_near-sent in
    let if1 = c.if-n-eq0 in
    let going = c.going-g in
    some_room pre.0 _ _ pre.1 sent-near.ensures.0 sent-near.ensures.1 if1.false going.ensures

pub returns : goal.returns
returns c =
    let pre = c.requires in
    let sent-near = c.sent_near-sent in
    let if1 = c.if-n-eq0 in
    let going = c.going-g in
    let write-message = c.write_message in
    (some_length pre.0 _ sent-near.ensures.1 if1.false going.ensures c.ghost_at.ensures, some_written pre.0 _ _ sent-near.ensures.1 if1.false write-message.ensures)
