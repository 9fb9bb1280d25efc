use native.Mathlib.Omega.{arith}
use Prim.Native.Nat.{ℕ}
use lib.ListN.{length-replicate}
use Rattle.positions.proofs.Positions.{blank}
use Rattle.columns_check.proofs.sound.links_with.Goals as goal

pub index_ghosts-requires : goal.index_ghosts-requires
index_ghosts-requires g c = (c.requires.0, omega (arith, length-replicate {A = ℕ}), blank _ c.requires.2)

pub links_sound-requires : goal.links_sound-requires
links_sound-requires g c = record { numbered = c.requires.0; room = omega (arith, length-replicate {A = ℕ}); indexed = c.index_ghosts.ensures }
