use Rattle.build_all.proofs.Rows.{range_to, none_length, some_length}
use native.Mathlib.Omega.{arith}
use Rattle.build_all.proofs.each.length_to.Goals as goal

pub returns-then-n-eq0 : goal.returns-then-n-eq0
returns-then-n-eq0 c = (λ epoch. none_length c.requires epoch c.sent_near-sent.ensures.1 c.if-n-eq0.true, omega arith)

pub going-g-requires : goal.going-g-requires
going-g-requires c = ((range_to c.requires c.sent_near-sent.ensures.0 c.sent_near-sent.ensures.1, c.requires.sender.bytes), c.requires.sender.room)

pub returns : goal.returns
returns c =
    let pre = c.requires in
    let sent-near = c.sent_near-sent in
    let if1 = c.if-n-eq0 in
    let going = c.going-g in
    (λ epoch. some_length pre epoch sent-near.ensures.1 if1.false going.ensures c.ghost_at.ensures, omega (arith, going.ensures.small, c.ghost_at.ensures))
