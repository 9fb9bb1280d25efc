use Prim.Native.Nat.{◌≤◌, ◌<◌}
use native.Mathlib.Omega.{arith}
use Rattle.records.specs.Shape.{dimension_of}
use borrow.Author.Tests.{le-leb, lt-leb}
use Rattle.records.proofs.shape.dimension_of.Goals as goal

pub returns-in-0-to-1 : goal.returns-in-0-to-1
unfolding dimension_of
returns-in-0-to-1 c =
    let h : c.args.shape ≤ 1 = omega arith in
    simp (le-leb _ _ h)

pub returns-in-2-to-5 : goal.returns-in-2-to-5
unfolding dimension_of
returns-in-2-to-5 c =
    let h : 1 < c.args.shape = omega arith in
    let k : c.args.shape ≤ 5 = omega arith in
    simp (lt-leb _ _ h, le-leb _ _ k)

pub returns-in_default : goal.returns-in_default
unfolding dimension_of
returns-in_default c =
    let h : 1 < c.args.shape = omega arith in
    let k : 5 < c.args.shape = omega arith in
    simp (lt-leb _ _ h, lt-leb _ _ k)
