use Rattle.offsets_write.specs.Means.{range_fits}
use mathlib.Core.Path.{refl}
use Rattle.offsets_write.proofs.ranges.range_fits.Goals as goal

pub returns : goal.returns
unfolding range_fits
returns c = refl
