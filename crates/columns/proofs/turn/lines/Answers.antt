use native.Mathlib.Omega.{arith}
use Rattle.columns.proofs.Moving.{line_there, band_long, band_start, band_more, band_done}
use Rattle.columns.proofs.turn.lines.Goals as goal

pub loop-j-init : goal.loop-j-init
loop-j-init c = band_start _ _ _ _ _ _ _ _ _

pub overflow_mul-from : goal.overflow_mul-from
overflow_mul-from c = omega (arith, (c.requires.0.line _ c.loop-j-test.true).at 0 c.requires.2)

pub overflow_add-from : goal.overflow_add-from
overflow_add-from c = omega (arith, (c.requires.0.line _ c.loop-j-test.true).at 0 c.requires.2)

pub overflow_mul-to : goal.overflow_mul-to
overflow_mul-to c =
    let pre = c.requires in
    let loop-test = c.loop-j-test in
    omega (arith, (pre.1.line _ loop-test.true).at 0 pre.2)

pub overflow_add-to : goal.overflow_add-to
overflow_add-to c =
    let pre = c.requires in
    let loop-test = c.loop-j-test in
    omega (arith, (pre.1.line _ loop-test.true).at 0 pre.2)

pub line-requires : goal.line-requires
line-requires c =
    let pre = c.requires in
    let loop-test = c.loop-j-test in
    let loop = c.loop-j in
    (pre.0.line _ loop-test.true, line_there _ _ _ _ _ (band_long _ _ _ _ _ _ _ _ _ _ loop.invariant) (pre.1.line _ loop-test.true))

pub loop-j-preserved : goal.loop-j-preserved
loop-j-preserved c = band_more _ _ _ _ _ _ _ _ _ _ c.loop-j.invariant c.line.ensures

pub returns : goal.returns
returns c = band_done _ _ _ _ _ _ _ _ _ _ _ c.loop-j.auto.j-end (omega arith) c.loop-j.invariant
