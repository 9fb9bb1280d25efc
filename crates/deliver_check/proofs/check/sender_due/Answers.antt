use native.Mathlib.Omega.{arith}
use Rattle.area.proofs.Tabled.{tabled_pair}
use Rattle.deliver_check.proofs.Checking.{sender_past, sender_read}
use Rattle.deliver_check.proofs.check.sender_due.Goals as goal

pub returns-then-ranks-sender : goal.returns-then-ranks-sender
returns-then-ranks-sender c = sender_past _ _ c.sender-sender.ensures c.ranks.ensures c.if-ranks-sender.true

pub sends_some-requires : goal.sends_some-requires
sends_some-requires c =
    let pre = c.requires in
    let ranks = c.ranks in
    let if1 = c.if-ranks-sender in
    tabled_pair pre.0 (omega (arith, ranks.ensures, if1.false)) c.rank.ensures

pub returns : goal.returns
returns c =
    let sender = c.sender-sender in
    let pre = c.requires in
    let rank = c.rank in
    let ranks = c.ranks in
    let if1 = c.if-ranks-sender in
    sender_read _ _ sender.ensures pre.0 rank.ensures ranks.ensures if1.false c.sends_some.ensures
