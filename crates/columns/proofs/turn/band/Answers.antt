use Rattle.std.proofs.Common.{◌≡◌, ◌+◌}
use native.Mathlib.Omega.{arith}
use Rattle.columns.proofs.Moving.{lines_there, lines_beside, moved_none, moved_beside, moved_width}
use Rattle.columns.proofs.turn.band.Goals as goal

pub loop-j-init : goal.loop-j-init
loop-j-init c = (omega arith, moved_none _ _ _ _ _ _ _ _ _)

pub overflow_mul-source : goal.overflow_mul-source
overflow_mul-source c =
    let pre = c.requires in
    omega (arith, (pre.1.line c.min-k.result (omega arith)).at 0 (omega arith))

pub overflow_add-source : goal.overflow_add-source
overflow_add-source c =
    let pre = c.requires in
    omega (arith, (pre.1.line c.min-k.result (omega arith)).at 0 (omega arith))

pub overflow_mul-target : goal.overflow_mul-target
overflow_mul-target c =
    let pre = c.requires in
    omega (arith, (pre.2.line c.min-k.result (omega arith)).at 0 (omega arith))

pub overflow_add-target : goal.overflow_add-target
overflow_add-target c =
    let pre = c.requires in
    omega (arith, (pre.2.line c.min-k.result (omega arith)).at 0 (omega arith))

pub strip-requires : goal.strip-requires
strip-requires c =
    let pre = c.requires in
    let loop = c.loop-j in
    (pre.0, lines_beside _ _ _ _ _ _ _ _ pre.1 (omega arith), lines_there _ _ _ _ _ _ _ loop.invariant.1.long (lines_beside _ _ _ _ _ _ _ _ pre.2 (omega arith)), pre.3)

pub loop-j-preserved : goal.loop-j-preserved
loop-j-preserved c =
    let e : c.loop-j.j + 16 ≡ c.min-k.result + 16 = omega arith in
    (omega arith, rw e (moved_beside _ _ _ _ _ _ _ _ _ _ _ 16 (omega arith) (omega arith) c.loop-j.invariant.1 c.strip.ensures))

pub returns : goal.returns
returns c = moved_width _ _ _ _ _ _ _ _ _ _ _ c.loop-j.invariant.0 (omega arith) c.loop-j.invariant.1

pub returns-2 : goal.returns-2
returns-2 c =
    moved_width _ _ _ _ _ _ _ _ _ (c.min-k.result + 16) _ (omega arith) (omega arith)
    (moved_beside _ _ _ _ _ _ _ _ _ _ _ 16 (omega arith) (omega arith) c.loop-j.invariant.1 c.strip.ensures)
