use Rattle.offsets_write.specs.Calls.{each}
use Rattle.offsets_write.specs.Partition.{end_below, entries_below}
use Rattle.encoding.specs.Pieces.{splice}
use lib.ListN.{length}
use mathlib.Core.Path.{◌≡◌}
use Rattle.offsets_write.proofs.ranges.write.Given as goal

abbrev pub invariant-loop-p : goal.invariant-loop-p
invariant-loop-p l = (l.end ≡ end_below (each l.first) (each l.count) l.p) × (l.out ≡ splice l.initial.out 0 (entries_below (each l.first) (each l.count) l.p)) × (length l.out ≡ length l.initial.out)
