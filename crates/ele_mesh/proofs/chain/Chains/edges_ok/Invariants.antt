use Rattle.ele_mesh.proofs.Chains.{paired}
use Rattle.encoding.specs.Below.{all_below}
use mathlib.Core.Bool.{true}
use mathlib.Core.Path.{◌≡◌}
use Rattle.ele_mesh.proofs.chain.Chains.edges_ok.Given as goal

abbrev pub invariant-loop-f : goal.invariant-loop-f
invariant-loop-f l = all_below l.f (paired l.self.vs.now) ≡ true
