use Rattle.close_check.proofs.Checks.{heard_start, heard_fails, heard_passes}
use Rattle.area_check.proofs.Checking.{window_within}
use Rattle.area.proofs.Tabled.{tabled_rank}
use Rattle.encoding.proofs.Below.{all_more}
use native.Mathlib.Omega.{arith}
use mathlib.Core.Path.{sym, ◌∙◌}
use Rattle.close_check.proofs.heard.all_heard.Goals as goal

pub window_of-window-requires : goal.window_of-window-requires
window_of-window-requires c = tabled_rank c.requires c.rank.ensures

pub loop-s-init : goal.loop-s-init
loop-s-init c =
    let pre = c.requires in
    let rank = c.rank in
    (c.window_of-window.ensures.0.ordered, heard_start pre rank.ensures c.window_of-window.ensures.0)

pub sender_heard-requires : goal.sender_heard-requires
sender_heard-requires c =
    let pre = c.requires in
    let rank = c.rank in
    let window-of = c.window_of-window in
    (pre, omega (arith, window_within pre rank.ensures window-of.ensures.0))

pub returns-then-not-sender_heard : goal.returns-then-not-sender_heard
returns-then-not-sender_heard c =
    let pre = c.requires in
    let rank = c.rank in
    let window-of = c.window_of-window in
    let loop-test = c.loop-s-test in
    let sender-heard = c.sender_heard in
    heard_fails pre rank.ensures window-of.ensures.0 loop-test.true (sym sender-heard.ensures ∙ c.if-not-sender_heard.true)

pub loop-s-preserved : goal.loop-s-preserved
loop-s-preserved c = (omega arith, all_more _ _ c.loop-s.invariant.1 (sym c.sender_heard.ensures ∙ c.if-not-sender_heard.false))

pub returns : goal.returns
returns c =
    let pre = c.requires in
    let rank = c.rank in
    let window-of = c.window_of-window in
    let loop = c.loop-s in
    heard_passes pre rank.ensures window-of.ensures.0 loop.invariant.0 c.loop-s-test.false loop.invariant.1
