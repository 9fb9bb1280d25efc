use mathlib.Core.Path.{refl}
use native.Mathlib.Omega.{arith}
use Rattle.encoding.specs.Below.{any_below}
use Rattle.columns_read.proofs.Reading.{beside_more, beside_to}
use Rattle.columns_check.proofs.sound.beside.Goals as goal

pub loop-face-init : goal.loop-face-init
unfolding any_below
loop-face-init c = refl

pub loop-face-preserved : goal.loop-face-preserved
loop-face-preserved c = beside_more _ _ _ _ c.loop-face.invariant c.word.ensures c.in_range-met.ensures

pub returns : goal.returns
returns c = beside_to _ _ _ _ _ c.loop-face.auto.face-end (omega arith) c.loop-face.invariant
