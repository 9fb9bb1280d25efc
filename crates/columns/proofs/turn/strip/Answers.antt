use Rattle.std.proofs.Common.{◌≡◌, ◌+◌}
use native.Mathlib.Omega.{arith}
use Rattle.columns.proofs.Moving.{lines_from, lines_there, moved_start, moved_more, moved_done}
use Rattle.columns.proofs.Squares.{sides_lines, sides_places, sides_moved, sides_step, sides_gap}
use Rattle.columns.proofs.turn.strip.Goals as goal

pub loop-i-init : goal.loop-i-init
loop-i-init c = (omega arith, moved_start _ _ _ _ _ _ _ _ _)

pub overflow_mul-from : goal.overflow_mul-from
overflow_mul-from c =
    let pre = c.requires in
    omega (arith, (pre.1.line 0 (omega arith)).at c.min-k.result (omega arith))

pub overflow_add-from : goal.overflow_add-from
overflow_add-from c =
    let pre = c.requires in
    omega (arith, (pre.1.line 0 (omega arith)).at c.min-k.result (omega arith))

pub overflow_mul-from-in-loop-i : goal.overflow_mul-from-in-loop-i
overflow_mul-from-in-loop-i c =
    let pre = c.requires in
    omega (arith, sides_step pre.0 pre.1 (omega arith) (omega arith))

pub overflow_mul-to : goal.overflow_mul-to
overflow_mul-to c =
    let pre = c.requires in
    omega (arith, (pre.2.line 0 (omega arith)).at c.min-k.result (omega arith))

pub overflow_add-to : goal.overflow_add-to
overflow_add-to c =
    let pre = c.requires in
    omega (arith, (pre.2.line 0 (omega arith)).at c.min-k.result (omega arith))

pub overflow_mul-to-in-loop-i : goal.overflow_mul-to-in-loop-i
overflow_mul-to-in-loop-i c =
    let pre = c.requires in
    omega (arith, sides_gap pre.0 pre.2 (omega arith) (omega arith))

pub square-requires : goal.square-requires
square-requires c =
    let pre = c.requires in
    let loop = c.loop-i in
    (sides_lines pre.0 (lines_from _ _ _ _ _ _ _ _ pre.1 (omega arith)), sides_places pre.0 (lines_there _ _ _ _ _ _ _ loop.invariant.1.long (lines_from _ _ _ _ _ _ _ _ pre.2 (omega arith))))

pub loop-i-preserved : goal.loop-i-preserved
loop-i-preserved c =
    let e : c.loop-i.i + 16 ≡ c.min-k.result + 16 = omega arith in
    (omega arith, rw e (moved_more _ _ _ _ _ _ _ _ _ _ _ 16 (omega arith) (omega arith) c.loop-i.invariant.1 (sides_moved c.requires.0 c.square.ensures)))

pub returns : goal.returns
returns c = moved_done _ _ _ _ _ _ _ _ _ _ _ c.loop-i.invariant.0 (omega arith) c.loop-i.invariant.1

pub returns-2 : goal.returns-2
returns-2 c =
    moved_done _ _ _ _ _ _ _ _ _ (c.min-k.result + 16) _ (omega arith) (omega arith)
    (moved_more _ _ _ _ _ _ _ _ _ _ _ 16 (omega arith) (omega arith) c.loop-i.invariant.1 (sides_moved c.requires.0 c.square.ensures))
