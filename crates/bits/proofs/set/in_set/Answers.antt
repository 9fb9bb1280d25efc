use Rattle.bits.specs.Bits.{in_set}
use Rattle.bits.proofs.set.in_set.Goals as goal

pub returns : goal.returns
unfolding in_set
returns c = c.bit.ensures
