use Rattle.message_build.proofs.Answers.{message_room, range_short, range_done}
use mathlib.Core.Path.{◌∙◌}
use Rattle.message_build.proofs.write.build_range.Goals as goal

pub returns-then-out-size : goal.returns-then-out-size
returns-then-out-size c =
    let ghost_at = c.ghost_at-size in
    let going = c.going-g in
    let args = c.args in
    range_short _ _ (ghost_at.ensures ∙ going.ensures.long args.epoch) c.if-out-size.true

pub write_message-requires : goal.write_message-requires
write_message-requires c =
    let pre = c.requires in
    let going = c.going-g in
    let ghost_at = c.ghost_at-size in
    let if1 = c.if-out-size in
    message_room _ _ _ _ _ _ _ pre.0.0 _ _ _ _ going.ensures ghost_at.ensures if1.false

pub returns : goal.returns
returns c =
    let ghost_at = c.ghost_at-size in
    let going = c.going-g in
    let args = c.args in
    let if1 = c.if-out-size in
    let write-message = c.write_message in
    range_done _ _ (ghost_at.ensures ∙ going.ensures.long args.epoch) if1.false write-message.ensures
