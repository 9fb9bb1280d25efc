use Rattle.positions.proofs.Members.{Going}
use Rattle.mesh.specs.Mesh.{mesh_core}
use Rattle.bits.specs.Bits.{in_set}
use Prim.Native.Nat.{◌*◌, ◌-◌}
use lib.ListN.{length}
use Rattle.part_cut.proofs.write.write_ghosts.Given as goal

abbrev pub invariant-loop-k : goal.invariant-loop-k
invariant-loop-k l = Going (mesh_core l.mesh) (in_set l.marks) (64 * length l.marks) l.initial.out l.at l.to l.k l.out

abbrev pub decreases-loop-k : goal.decreases-loop-k
decreases-loop-k l = 64 * length l.marks - l.k
