use Rattle.pattern.proofs.Windows.{half_start, half_above, half_below, half_end}
use Rattle.offsets.proofs.OnePass.{ranks_known}
use mathlib.Core.Path.{◌∙◌, ap}
use Rattle.offsets.specs.Table.{magnitude}
use native.Mathlib.Omega.{arith}
use Rattle.pattern.proofs.window.first_above.Goals as goal

pub ranks-high-requires : goal.ranks-high-requires
ranks-high-requires c = c.requires.ranks_fit

pub loop-low-init : goal.loop-low-init
loop-low-init c = half_start _ _ c.requires c.ranks-high.ensures.0 c.ranks-high.ensures.1.0

pub overflow_add-middle : goal.overflow_add-middle
overflow_add-middle c = omega (arith, c.loop-low.invariant.order, c.loop-low.invariant.bound, (ranks_known _ c.requires.ranks_fit).high)

pub entry-requires : goal.entry-requires
entry-requires c = omega (arith, c.loop-low.invariant.bound, (ranks_known _ c.requires.ranks_fit).size)

pub loop-low-smaller-then-k-magnitude : goal.loop-low-smaller-then-k-magnitude
loop-low-smaller-then-k-magnitude c = omega arith

pub loop-low-preserved-then-k-magnitude : goal.loop-low-preserved-then-k-magnitude
loop-low-preserved-then-k-magnitude c =
    let pre = c.requires in
    let loop = c.loop-low in
    let entry = c.entry in
    let read = c.magnitude in
    half_above _ _ pre loop.invariant (omega arith) (omega arith) (read.ensures ∙ ap magnitude entry.ensures) c.if-k-magnitude.true

pub overflow_add-low : goal.overflow_add-low
overflow_add-low c =
    let pre = c.requires in
    let loop = c.loop-low in
    omega (arith, loop.invariant.bound, (ranks_known _ pre.ranks_fit).high)

pub loop-low-smaller : goal.loop-low-smaller
loop-low-smaller c = omega arith

pub loop-low-preserved : goal.loop-low-preserved
loop-low-preserved c =
    let pre = c.requires in
    let loop = c.loop-low in
    let entry = c.entry in
    let read = c.magnitude in
    half_below _ _ pre loop.invariant (omega arith) (omega arith) (read.ensures ∙ ap magnitude entry.ensures) c.if-k-magnitude.false

pub returns : goal.returns
returns c = half_end _ _ c.requires c.loop-low.invariant c.loop-low-test.false
