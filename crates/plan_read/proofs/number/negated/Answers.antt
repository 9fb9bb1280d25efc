use Prim.Native.Nat.{◌+◌, ◌-◌, ◌^◌, ◌<◌}
use mathlib.Core.Path.{◌≡◌}
use borrow.Author.Rules.{rules}
use borrow.Author.Tests.{lt-ltb}
use native.Mathlib.Omega.{arith}
use Rattle.plan_read.specs.Means.{negated}
use Rattle.plan_read.proofs.number.negated.Goals as goal

pub returns-in_default : goal.returns-in_default
unfolding negated
returns-in_default c = rw c.in_default.is

pub returns-then-v-eq0 : goal.returns-then-v-eq0
unfolding negated
returns-then-v-eq0 c = rw (c.in-Some.is, c.if-v-eq0.true)

pub returns : goal.returns
unfolding negated
returns c =
    let v = c.in-Some.v in
    let l : v < 2 ^ 64 = search rules in
    let e : 18446744073709551615 - v + 1 ≡ 2 ^ 64 - v = omega arith in
    rw (c.in-Some.is, lt-ltb 0 v (omega arith), e)
