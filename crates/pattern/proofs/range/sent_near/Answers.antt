use Rattle.pattern.proofs.Laws.{sent_fits, sent_none, sent_some}
use native.Mathlib.Omega.{arith}
use Rattle.pattern.proofs.range.sent_near.Goals as goal

pub returns-then-high-low : goal.returns-then-high-low
returns-then-high-low c =
    let pre = c.requires in
    let sent-low = c.sent_low-low in
    let sent_high_call = c.sent_high-high in
    sent_none _ _ _ _ pre.pair _ _ sent-low.ensures sent_high_call.ensures c.if-high-low.true

pub overflow_cast-result : goal.overflow_cast-result
overflow_cast-result c =
    let pre = c.requires in
    let sent-low = c.sent_low-low in
    let sent_high_call = c.sent_high-high in
    omega (arith, sent_fits _ _ _ _ pre.pair _ _ sent-low.ensures sent_high_call.ensures)

pub overflow_cast-result-2 : goal.overflow_cast-result-2
overflow_cast-result-2 c =
    let pre = c.requires in
    let sent-low = c.sent_low-low in
    let sent_high_call = c.sent_high-high in
    omega (arith, sent_fits _ _ _ _ pre.pair _ _ sent-low.ensures sent_high_call.ensures)

pub returns : goal.returns
returns c =
    let pre = c.requires in
    let sent-low = c.sent_low-low in
    let sent_high_call = c.sent_high-high in
    sent_some _ _ _ _ pre.pair _ _ sent-low.ensures sent_high_call.ensures c.if-high-low.false
