use Prim.Native.Nat.{◌<◌}
use lib.ListN.{length}
use Rattle.ele_mesh.specs.Means.{AllChained}
use Rattle.ele_mesh.proofs.Chains.{Counted}
use Rattle.ele_mesh.proofs.chain.Chains.earlier.Given as goal

abbrev pub invariant-loop-at : goal.invariant-loop-at
invariant-loop-at now = let s = now.self in (r : AllChained s) × ((l : now.f < length s.vs.now) × Counted s.vs.now s.modulus s.heads.now s.links.now r now.f l now.n now.at)

abbrev pub decreases-loop-at : goal.decreases-loop-at
decreases-loop-at l = l.at
