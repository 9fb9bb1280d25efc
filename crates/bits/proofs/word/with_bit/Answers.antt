use Rattle.bits.proofs.Bits.{with_made}
use Rattle.bits.proofs.word.with_bit.Goals as goal

pub returns : goal.returns
returns c = with_made _ _ c.requires
