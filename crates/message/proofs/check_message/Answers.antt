use Rattle.message.specs.Calls.{message_refusal}
use Rattle.encoding.specs.Refusal.{first_failed}
use Rattle.message.proofs.check_message.Goals as goal

pub returns-then-not-in_layout : goal.returns-then-not-in_layout
unfolding message_refusal first_failed
returns-then-not-in_layout c = simp (← c.in_layout.ensures, c.if-not-in_layout.true)

pub returns : goal.returns
unfolding message_refusal first_failed
returns c = simp (← c.in_layout.ensures, c.if-not-in_layout.false)
