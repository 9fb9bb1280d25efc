use Rattle.message.proofs.Checking.{first_read, after_read}
use Rattle.message.proofs.layout.after_last.Goals as goal

pub returns-then-i-eq0 : goal.returns-then-i-eq0
returns-then-i-eq0 c = first_read _ _ _ _ c.if-i-eq0.true

pub returns : goal.returns
returns c =
    let if1 = c.if-i-eq0 in
    let core_at = c.core_at-before in
    let core-at2 = c.core_at-at in
    let number_of_call = c.number_of in
    after_read _ _ _ _ if1.false core_at.ensures.0 core-at2.ensures.0 number_of_call.ensures c.number_of-2.ensures
