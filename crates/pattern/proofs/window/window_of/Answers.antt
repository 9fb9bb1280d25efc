use Rattle.pattern.proofs.Windows.{window_sending, window_receiving}
use Rattle.pattern.proofs.window.window_of.Goals as goal

pub returns-then-sending : goal.returns-then-sending
returns-then-sending c =
    let pre = c.requires in
    (rw c.if-sending.true (window_sending _ _ _ _ _ pre c.meeting.ensures.0), c.meeting.ensures.1)

pub returns : goal.returns
returns c =
    let pre = c.requires in
    (rw c.if-sending.false (window_receiving _ _ _ _ _ pre c.meeting-2.ensures.0), c.meeting-2.ensures.1)
