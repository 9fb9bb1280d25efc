use Rattle.ele_mesh.specs.Means.{hashes}
use lib.ListN.{length}
use Prim.Native.Nat.{◌≤◌}
use mathlib.Core.Path.{◌≡◌}
use Rattle.ele_mesh.proofs.chain.pairs.Given as goal

abbrev pub invariant-loop-f : goal.invariant-loop-f
invariant-loop-f l = (length l.heads ≡ length l.initial.heads) × ((hashes ≤ length l.heads) × (l.n ≤ 1000000000))
