use Rattle.bits.specs.Bits.{with_member}
use Rattle.bits.proofs.set.add_member.Goals as goal

pub returns : goal.returns
unfolding with_member
returns c = rw c.with_bit.ensures
