use native.Mathlib.Omega.{arith}
use Rattle.deliver_all.proofs.Delivering.{all_unsound, all_short, all_receivable, all_small, all_done}
use Rattle.deliver_all.proofs.deliver_all.Goals as goal

pub returns-then-not-area_sound : goal.returns-then-not-area_sound
returns-then-not-area_sound c = all_unsound _ _ _ c.area_sound.ensures (c.if-not-area_sound.true)

pub returns-then-answers-count : goal.returns-then-answers-count
returns-then-answers-count c =
    let area_sound_call = c.area_sound in
    let if1 = c.if-not-area_sound in
    let message-count = c.message_count-count in
    all_short _ _ _ area_sound_call.ensures (if1.false) message-count.ensures c.if-answers-count.true

pub deliver_each-requires : goal.deliver_each-requires
deliver_each-requires c =
    let area_sound_call = c.area_sound in
    let if1 = c.if-not-area_sound in
    let message-count = c.message_count-count in
    let if2 = c.if-answers-count in
    all_receivable _ _ _ area_sound_call.ensures (if1.false) message-count.ensures if2.false

pub overflow_cast-result : goal.overflow_cast-result
overflow_cast-result c =
    let args = c.args in
    let area_sound_call = c.area_sound in
    let if1 = c.if-not-area_sound in
    let message-count = c.message_count-count in
    let if2 = c.if-answers-count in
    omega (arith, all_small args.area.now args.messages.now args.answers.now area_sound_call.ensures (if1.false) message-count.ensures if2.false)

pub returns : goal.returns
returns c =
    let area_sound_call = c.area_sound in
    let if1 = c.if-not-area_sound in
    let message-count = c.message_count-count in
    let if2 = c.if-answers-count in
    let deliver-each = c.deliver_each in
    all_done _ _ _ area_sound_call.ensures (if1.false) message-count.ensures if2.false deliver-each.ensures
