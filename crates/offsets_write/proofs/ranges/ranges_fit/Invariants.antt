use Rattle.offsets_write.specs.Means.{ranks_follow}
use Rattle.offsets_write.specs.Calls.{each}
use Rattle.offsets_write.specs.Partition.{end_below}
use mathlib.Core.Bool.{true}
use mathlib.Core.Path.{◌≡◌}
use lib.ListN.{length}
use Rattle.offsets_write.proofs.ranges.ranges_fit.Given as goal

abbrev pub invariant-loop-f : goal.invariant-loop-f
invariant-loop-f l = (l.end ≡ end_below (each l.first) (each l.count) (length l.yielded)) × (ranks_follow (each l.first) (each l.count) (length l.yielded) ≡ true)
