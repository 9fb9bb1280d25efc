use Rattle.positions.proofs.Positions.{blank}
use Rattle.part_fault.proofs.Found.{to_index, indexed}
use native.Mathlib.Omega.{arith}
use Prim.Native.Nat.{ℕ}
use lib.ListN.{length-replicate}
use Rattle.part_fault.proofs.search.first_ghost_with.Goals as goal

pub make-requires : goal.make-requires
make-requires g c = (to_index _ _ c.requires.0 c.ghost_at.ensures, rw (length-replicate {A = ℕ} g.row.WORDS 0) c.requires.1, blank _ (omega arith))

pub first_wrong-requires : goal.first_wrong-requires
first_wrong-requires g c = record { known = c.requires.0; indexed = indexed _ _ c.requires.0 c.ghost_at.ensures c.make.ensures }
