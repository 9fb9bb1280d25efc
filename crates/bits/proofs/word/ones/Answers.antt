use Rattle.bits.proofs.Bits.{ones_count}
use lib.Count.{ones-le}
use Rattle.bits.proofs.word.ones.Goals as goal

pub returns : goal.returns
returns c = (ones_count 64 _ c.ranges.w.fits, ones-le 64 _ c.ranges.w.fits)
