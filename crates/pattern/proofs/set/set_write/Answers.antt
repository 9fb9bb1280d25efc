use Rattle.pattern.proofs.Laws.{pair_near}
use Rattle.pattern.proofs.Windows.{list_start, list_count, list_more, list_past, list_skip, list_done}
use mathlib.Core.Path.{sym, ◌∙◌}
use native.Mathlib.Omega.{arith}
use Rattle.pattern.proofs.set.set_write.Goals.{then-exchanges+then-place-out, then-exchanges+else-place-out, else-exchanges}
use Rattle.pattern.proofs.set.set_write.Goals as goal

pub loop-other-init : goal.loop-other-init
loop-other-init c = list_start c.window_of-window.ensures.0 _

pub exchanges-requires : goal.exchanges-requires
exchanges-requires c =
    let pre = c.requires in
    let window-of = c.window_of-window in
    let lower-rank = c.lower_rank-lower in
    let upper-rank = c.upper_rank-upper in
    pair_near _ _ pre window-of.ensures.0.within c.loop-other-test.true lower-rank.ensures.0 upper-rank.ensures.0

pub overflow_add-count : goal.overflow_add-count
overflow_add-count c = omega (arith, list_count _ _ _ c.loop-other.invariant)

pub offset_bounds-out-place : goal.offset_bounds-out-place
offset_bounds-out-place c = omega (arith, list_count _ _ _ c.loop-other.invariant)

pub loop-other-preserved : goal.loop-other-preserved
loop-other-preserved c =
    elim c.if-exchanges.branch [
      | then-exchanges+then-place-out w ↦ rw (w.out-is, w.count-is) (list_more _ _ _ c.loop-other.invariant c.loop-other-test.true (sym c.exchanges.ensures ∙ w.if-exchanges.true) w.if-place-out.true)
      | then-exchanges+else-place-out w ↦ rw (w.out-is, w.count-is) (list_past _ _ _ c.loop-other.invariant c.loop-other-test.true (sym c.exchanges.ensures ∙ w.if-exchanges.true) w.if-place-out.false)
      | else-exchanges w ↦ rw (w.out-is, w.count-is) (list_skip _ _ _ c.loop-other.invariant c.loop-other-test.true (sym c.exchanges.ensures ∙ w.if-exchanges.false))
    ]

pub shape_of-out : goal.shape_of-out
shape_of-out c = c.loop-other.invariant.long

pub returns : goal.returns
returns c =
    let window-of = c.window_of-window in
    let loop = c.loop-other in
    list_done window-of.ensures.0 _ _ _ _ window-of.ensures.1 loop.invariant c.loop-other-test.false
