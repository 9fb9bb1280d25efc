use Rattle.area.proofs.Tabled.{tabled_pair}
use Rattle.close_check.proofs.Checks.{sender_free, sender_due_lem}
use Rattle.close_check.proofs.heard.sender_heard.Goals as goal

pub sends_some-requires : goal.sends_some-requires
sends_some-requires c = tabled_pair c.requires.0 c.requires.1 c.rank.ensures

pub returns-then-not-sends_some : goal.returns-then-not-sends_some
returns-then-not-sends_some c =
    let pre = c.requires in
    let rank = c.rank in
    let sends_some = c.sends_some in
    sender_free pre.0 _ pre.1 rank.ensures sends_some.ensures (c.if-not-sends_some.true)

pub returns : goal.returns
returns c =
    let pre = c.requires in
    let rank = c.rank in
    let sends_some = c.sends_some in
    let if1 = c.if-not-sends_some in
    sender_due_lem pre.0 _ pre.1 rank.ensures sends_some.ensures (if1.false) c.heard.ensures
