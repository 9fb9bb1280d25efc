use mathlib.Core.Path.{sym, ◌∙◌}
use Rattle.area_check.proofs.Checking.{found_some, found_none, ranges_start, ranges_step, ranges_fit_lem, ranges_fail, ranges_read, window_within}
use Rattle.area.proofs.Tabled.{tabled_rank}
use native.Mathlib.Omega.{arith}
use Rattle.area_check.proofs.sound.ranges_sound.Goals as goal

pub window_of-window-requires : goal.window_of-window-requires
window_of-window-requires c = tabled_rank c.requires c.rank.ensures

pub loop-s-init : goal.loop-s-init
loop-s-init c = ranges_start c.requires c.rank.ensures c.window_of-window.ensures.0

pub range_filled-requires : goal.range_filled-requires
range_filled-requires c =
    let pre = c.requires in
    let rank = c.rank in
    let window-of = c.window_of-window in
    (pre, omega (arith, window_within pre rank.ensures window-of.ensures.0))

pub returns-in_default : goal.returns-in_default
returns-in_default c = ranges_fail c.requires c.rank.ensures c.window_of-window.ensures.0 c.loop-s-test.true (found_none _ _ (sym c.in_default.is ∙ c.range_filled.ensures))

pub overflow_add-filled : goal.overflow_add-filled
overflow_add-filled c =
    let pre = c.requires in
    let rank = c.rank in
    let window-of = c.window_of-window in
    let loop = c.loop-s in
    let loop-test = c.loop-s-test in
    let found = found_some _ _ _ c.in-Some.ensures in
    omega (arith, ranges_fit_lem pre rank.ensures window-of.ensures.0 loop.invariant loop-test.true found.1)

pub loop-s-preserved : goal.loop-s-preserved
loop-s-preserved c =
    let loop = c.loop-s in
    let loop-test = c.loop-s-test in
    let found = found_some _ _ _ c.in-Some.ensures in
    ranges_step _ loop.invariant loop-test.true found.0 found.1

pub returns : goal.returns
returns c =
    let pre = c.requires in
    let rank = c.rank in
    let window-of = c.window_of-window in
    let loop = c.loop-s in
    let loop-test = c.loop-s-test in
    let ghosts = c.ghosts in
    let dimension = c.dimension in
    ranges_read pre rank.ensures window-of.ensures.0 loop.invariant loop-test.false ghosts.ensures dimension.ensures c.ghost_bound.ensures.0
