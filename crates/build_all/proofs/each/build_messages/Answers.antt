use Rattle.build_all.proofs.Rows.{from_kept, room_of}
use Rattle.message_build.proofs.Answers.{range_short, range_done}
use Rattle.build_all.proofs.each.build_messages.Goals as goal

pub returns-then-out-total : goal.returns-then-out-total
returns-then-out-total c =
    let messages-length = c.messages_length-total in
    let args = c.args in
    range_short _ _ (messages-length.ensures.0 args.epoch) c.if-out-total.true

pub write_messages-requires : goal.write_messages-requires
write_messages-requires c =
    let pre = c.requires in
    let marks = c.marks-1 in
    let messages-length = c.messages_length-total in
    let args = c.args in
    let if1 = c.if-out-total in
    (from_kept pre marks.given, room_of (messages-length.ensures.0 args.epoch) if1.false)

pub returns : goal.returns
returns c =
    let messages-length = c.messages_length-total in
    let args = c.args in
    let if1 = c.if-out-total in
    let write-messages = c.write_messages in
    range_done _ _ (messages-length.ensures.0 args.epoch) if1.false write-messages.ensures
