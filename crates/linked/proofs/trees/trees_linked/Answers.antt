use native.Mathlib.Omega.{arith}
use Rattle.encoding.proofs.Below.{all_fails}
use Rattle.mesh.proofs.Checking.{reached_none, reached_next}
use Rattle.ghost_links.proofs.Checking.{summed_all}
use Rattle.linked.proofs.trees.trees_linked.Goals as goal

pub plain_run-run-requires : goal.plain_run-run-requires
plain_run-run-requires c = (c.requires.laid, omega arith, omega arith, omega arith)

pub loop-run-init : goal.loop-run-init
loop-run-init c = (c.plain_run-run.ensures.within, c.plain_run-run.ensures.reaches (reached_none _ _ _), c.plain_run-run.ensures.few)

pub tree_linked-requires : goal.tree_linked-requires
tree_linked-requires c = (c.requires, c.loop-run-test.true)

pub returns-in_err-seen : goal.returns-in_err-seen
returns-in_err-seen c = rw c.from_residual.ensures (all_fails _ _ _ c.loop-run-test.true c.in_err-seen.ensures)

pub overflow_add-run : goal.overflow_add-run
overflow_add-run c =
    let if1 = c.loop-run-test in
    let pre = c.requires in
    omega (arith, if1.true, pre.laid.most)

pub overflow_add-run-in-loop-run : goal.overflow_add-run-in-loop-run
overflow_add-run-in-loop-run c =
    let if1 = c.loop-run-test in
    let pre = c.requires in
    let loop = c.loop-run in
    let seen = c.in_ok-seen.ensures in
    omega (arith, if1.true, pre.laid.most, loop.invariant.2.0, seen.1.few.0)

pub overflow_add-run-in-loop-run-2 : goal.overflow_add-run-in-loop-run-2
overflow_add-run-in-loop-run-2 c =
    let if1 = c.loop-run-test in
    let pre = c.requires in
    let loop = c.loop-run in
    let seen = c.in_ok-seen.ensures in
    omega (arith, if1.true, pre.laid.most, loop.invariant.2.1, seen.1.few.1)

pub overflow_add-tree : goal.overflow_add-tree
overflow_add-tree c =
    let if1 = c.loop-run-test in
    let pre = c.requires in
    omega (arith, if1.true, pre.laid.most)

pub hexahedron-requires : goal.hexahedron-requires
hexahedron-requires c = c.requires.laid

pub plain_run-run-requires-then-hexahedron : goal.plain_run-run-requires-then-hexahedron
plain_run-run-requires-then-hexahedron c =
    let pre = c.requires in
    let if1 = c.loop-run-test in
    let loop = c.loop-run in
    let seen = c.in_ok-seen.ensures in
    (pre.laid, omega (arith, if1.true), omega (arith, loop.invariant.2.0, seen.1.few.0), omega (arith, loop.invariant.2.1, seen.1.few.1))

pub loop-run-smaller-then-hexahedron : goal.loop-run-smaller-then-hexahedron
loop-run-smaller-then-hexahedron c =
    let if1 = c.loop-run-test in
    omega (arith, if1.true, c.plain_run-run-then-hexahedron.ensures.on, c.plain_run-run-then-hexahedron.ensures.within)

pub loop-run-preserved-then-hexahedron : goal.loop-run-preserved-then-hexahedron
loop-run-preserved-then-hexahedron c =
    let loop = c.loop-run in
    let seen = c.in_ok-seen.ensures in
    (c.plain_run-run-then-hexahedron.ensures.within, c.plain_run-run-then-hexahedron.ensures.reaches (reached_next _ _ _ _ loop.invariant.1 seen), c.plain_run-run-then-hexahedron.ensures.few)

pub loop-run-smaller : goal.loop-run-smaller
loop-run-smaller c = omega (arith, c.loop-run-test.true)

pub loop-run-preserved : goal.loop-run-preserved
loop-run-preserved c =
    let if1 = c.loop-run-test in
    let loop = c.loop-run in
    let seen = c.in_ok-seen.ensures in
    (omega (arith, if1.true), reached_next _ _ _ _ loop.invariant.1 seen, (omega (arith, loop.invariant.2.0, seen.1.few.0), omega (arith, loop.invariant.2.1, seen.1.few.1)))

pub returns : goal.returns
returns c =
    let loop = c.loop-run in
    summed_all _ _ _ _ _ loop.invariant.0 (omega arith) loop.invariant.1.passed (loop.invariant.1.upward, loop.invariant.2.0) (loop.invariant.1.downward, loop.invariant.2.1)
