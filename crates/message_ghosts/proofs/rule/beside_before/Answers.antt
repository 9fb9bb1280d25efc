use mathlib.Core.Path.{refl}
use native.Mathlib.Omega.{arith}
use Rattle.encoding.specs.Below.{any_below}
use Rattle.message_ghosts.specs.Means.{beside_before}
use Rattle.message_ghosts.proofs.Reading.{neighbour_before, beside_more, beside_end}
use Rattle.message_ghosts.proofs.rule.beside_before.Goals as goal

pub loop-face-init : goal.loop-face-init
unfolding beside_before any_below
loop-face-init c = refl

pub across_before-found-requires : goal.across_before-found-requires
across_before-found-requires c = (c.requires.0.there _ c.loop-face-test.true, c.requires.1, c.requires.2)

pub loop-face-preserved : goal.loop-face-preserved
loop-face-preserved c =
    let loop = c.loop-face in
    let pre = c.requires in
    let loop-test = c.loop-face-test in
    beside_more _ _ _ _ _ _ _ loop.invariant (neighbour_before _ _ _ _ _ _ _ _ _ pre.0 loop-test.true refl c.across_before-found.ensures)

pub returns : goal.returns
returns c = beside_end _ _ _ _ _ _ _ _ c.loop-face.auto.face-end (omega arith) c.loop-face.invariant
