use Rattle.bits.specs.Bits.{bit_of}
use mathlib.Core.Path.{refl}
use Rattle.bits.proofs.word.bit.Goals as goal

pub returns : goal.returns
unfolding bit_of
returns c = refl
