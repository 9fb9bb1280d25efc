use Rattle.message_build.specs.Means.{Past}
use Rattle.part.specs.Part.{part_core}
use Rattle.positions.proofs.Members.{Going}
use Rattle.part.specs.Layout.{ghost_place}
use Rattle.bits.specs.Bits.{in_set}
use Prim.Native.Nat.{◌*◌, ◌-◌}
use lib.ListN.{length}
use Rattle.message_build.proofs.write.write_ghosts.Given as goal

abbrev pub invariant-loop-k : goal.invariant-loop-k
invariant-loop-k l = Going (part_core l.part) (in_set l.marks) (64 * length l.marks) l.initial.out l.at l.to l.k l.out × Past l.part (ghost_place l.count 0) l.ghosts l.from l.k

abbrev pub decreases-loop-k : goal.decreases-loop-k
decreases-loop-k l = 64 * length l.marks - l.k
