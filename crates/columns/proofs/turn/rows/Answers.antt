use native.Mathlib.Omega.{arith}
use Rattle.columns.proofs.Moving.{line_there, band_long, band_start, band_more, band_done}
use Rattle.columns.proofs.turn.rows.Goals as goal

pub loop-j-init : goal.loop-j-init
loop-j-init c = band_start _ _ _ _ _ _ _ _ _

pub overflow_mul-leap : goal.overflow_mul-leap
overflow_mul-leap c = omega (arith, (c.requires.0.line _ c.loop-j-test.true).at 0 (omega arith))

pub overflow_add-from : goal.overflow_add-from
overflow_add-from c = omega (arith, (c.requires.0.line _ c.loop-j-test.true).at 0 (omega arith))

pub overflow_mul-span : goal.overflow_mul-span
overflow_mul-span c =
    let pre = c.requires in
    let loop-test = c.loop-j-test in
    omega (arith, (pre.1.line _ loop-test.true).at 0 (omega arith))

pub overflow_add-to : goal.overflow_add-to
overflow_add-to c =
    let pre = c.requires in
    let loop-test = c.loop-j-test in
    omega (arith, (pre.1.line _ loop-test.true).at 0 (omega arith))

pub copy16-requires : goal.copy16-requires
copy16-requires c =
    let pre = c.requires in
    let loop-test = c.loop-j-test in
    let loop = c.loop-j in
    (pre.0.line _ loop-test.true, line_there _ _ _ _ _ (band_long _ _ _ _ _ _ _ _ _ _ loop.invariant) (pre.1.line _ loop-test.true))

pub loop-j-preserved : goal.loop-j-preserved
loop-j-preserved c = band_more _ _ _ _ _ _ _ _ _ _ c.loop-j.invariant c.copy16.ensures

pub returns : goal.returns
returns c = band_done _ _ _ _ _ _ _ _ _ _ _ c.loop-j.auto.j-end (omega arith) c.loop-j.invariant
