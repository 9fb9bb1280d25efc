use Rattle.ele_mesh.specs.Means.{hashes, Modulus}
use lib.ListN.{length}
use Prim.Native.Nat.{◌≤◌}
use mathlib.Core.Path.{◌≡◌}
use Rattle.ele_mesh.proofs.chain.modulus.Given as goal

abbrev pub invariant-loop-j : goal.invariant-loop-j
invariant-loop-j l = Modulus l.best × ((length l.heads ≡ length l.initial.heads) × (hashes ≤ length l.heads))
