use Rattle.mesh.proofs.Checking.{reached_none, reached_next, trees_fail, trees_read}
use native.Mathlib.Omega.{arith}
use Rattle.mesh.proofs.sound.trees_sound.Goals as goal
use Rattle.mesh.proofs.sound.trees_sound.Goals.{else-loop-run-test, then-loop-run-test+then-run-trees}

pub loop-run-init : goal.loop-run-init
loop-run-init c = (omega arith, (reached_none _ _ _, (omega arith, omega arith)))

pub returns-in_default : goal.returns-in_default
returns-in_default c = trees_fail _ _ _ _ (omega (arith, c.run_on-run.ensures.within)) c.in_default.ensures

pub loop-run-preserved : goal.loop-run-preserved
loop-run-preserved c =
    let run = c.run_on-run.ensures in
    let seen = c.in-Some.ensures in (
      omega (arith, run.within),
      (reached_next _ _ _ _ (run.reaches c.loop-run.invariant.1.0) seen, (omega (arith, run.few.0, seen.1.few.0), omega (arith, run.few.1, seen.1.few.1))),
    )

pub returns : goal.returns
returns c =
    let before = c.loop-run.invariant in
    elim c.loop-run-test.branch [
      | else-loop-run-test w ↦
          rw w.run-is (trees_read _ _ _ _ before.0 (omega (arith, w.loop-run-test.false)) before.1.0.passed before.1.0.upward before.1.0.downward)
      | then-loop-run-test+then-run-trees w ↦
          let run = w.run_on-run.ensures in
          let reached = run.reaches before.1.0 in
          rw w.run-is (trees_read _ _ _ _ run.within (omega (arith, w.if-run-trees.true)) reached.passed reached.upward reached.downward)
    ]
