use native.Mathlib.Omega.{arith}
use Rattle.columns.proofs.Moving.{lines_from, lines_there, moved_start, moved_lines, moved_more, moved_done}
use Rattle.columns.proofs.turn.turn.Goals as goal

pub returns-then-count-eq0 : goal.returns-then-count-eq0
returns-then-count-eq0 c =
    moved_done _ _ _ _ _ _ _ _ _ 0 _ (omega arith) (omega arith) (moved_start _ _ _ _ _ _ _ _ _)

pub lines-requires : goal.lines-requires
lines-requires c =
    let pre = c.requires in
    (pre.1, pre.2, omega arith)

pub returns-then-count-lt16 : goal.returns-then-count-lt16
returns-then-count-lt16 c =
    let pre = c.requires in
    moved_lines _ _ _ _ _ _ _ _ _ _ pre.2 c.lines.ensures

pub loop-i-init : goal.loop-i-init
loop-i-init c =
    (omega arith, moved_start _ _ _ _ _ _ _ _ _)

pub overflow_mul-source : goal.overflow_mul-source
overflow_mul-source c =
    let pre = c.requires in
    omega (arith, (pre.1.line 0 (omega arith)).at c.min-k.result (omega arith))

pub overflow_add-source : goal.overflow_add-source
overflow_add-source c =
    let pre = c.requires in
    omega (arith, (pre.1.line 0 (omega arith)).at c.min-k.result (omega arith))

pub overflow_mul-target : goal.overflow_mul-target
overflow_mul-target c =
    let pre = c.requires in
    omega (arith, (pre.2.line 0 (omega arith)).at c.min-k.result (omega arith))

pub overflow_add-target : goal.overflow_add-target
overflow_add-target c =
    let pre = c.requires in
    omega (arith, (pre.2.line 0 (omega arith)).at c.min-k.result (omega arith))

pub band-requires : goal.band-requires
band-requires c =
    let pre = c.requires in
    let loop = c.loop-i in
    (pre.0, lines_from _ _ _ _ _ _ _ _ pre.1 (omega arith), lines_there _ _ _ _ _ _ _ loop.invariant.1.long (lines_from _ _ _ _ _ _ _ _ pre.2 (omega arith)), omega arith, pre.3)

pub loop-i-preserved : goal.loop-i-preserved
loop-i-preserved c =
    let loop = c.loop-i in
    let band = c.band in
    (omega arith, moved_more _ _ _ _ _ _ _ _ _ _ _ _ (omega arith) (omega arith) loop.invariant.1 band.ensures)

pub shape_of-dst : goal.shape_of-dst
shape_of-dst c = c.loop-i.invariant.1.long

pub returns : goal.returns
returns c = moved_done _ _ _ _ _ _ _ _ _ _ _ c.loop-i.invariant.0 (omega arith) c.loop-i.invariant.1
