use native.Mathlib.Numerals.{add-one}
use mathlib.Core.Path.{refl}
use Rattle.encoding.specs.Below.{all_below}
use Rattle.message.proofs.layout.six_below.Goals as goal

pub loop-face-init : goal.loop-face-init
unfolding all_below
loop-face-init c = refl

pub loop-face-preserved : goal.loop-face-preserved
unfolding all_below
loop-face-preserved c = simp (c.loop-face.invariant, c.neighbour_of.ensures, add-one)
