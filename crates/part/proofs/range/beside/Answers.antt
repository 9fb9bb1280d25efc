use Rattle.part.proofs.Ranges.{neighbour_read, none_next, none_to}
use Rattle.encoding.proofs.Below.{any_intro}
use Rattle.encoding.specs.Below.{any_below}
use native.Mathlib.Omega.{arith}
use mathlib.Core.Path.{refl, sym, ◌∙◌}
use Rattle.part.proofs.range.beside.Goals as goal

pub loop-face-init : goal.loop-face-init
unfolding any_below
loop-face-init c = refl

pub returns-then-in_range : goal.returns-then-in_range
returns-then-in_range c =
    let loop-test = c.loop-face-test in
    let neighbour_of_call = c.neighbour_of in
    let in_range_call = c.in_range in
    sym (any_intro _ _ _ loop-test.true (neighbour_read _ _ _ _ neighbour_of_call.ensures in_range_call.ensures ∙ c.if-in_range.true))

pub loop-face-preserved : goal.loop-face-preserved
loop-face-preserved c =
    let loop = c.loop-face in
    let neighbour_of_call = c.neighbour_of in
    let in_range_call = c.in_range in
    none_next _ _ loop.invariant (neighbour_read _ _ _ _ neighbour_of_call.ensures in_range_call.ensures ∙ c.if-in_range.false)

pub returns : goal.returns
returns c = none_to _ _ _ c.loop-face.auto.face-end (omega arith) c.loop-face.invariant
