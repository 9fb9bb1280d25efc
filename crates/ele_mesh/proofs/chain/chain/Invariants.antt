use Rattle.ele_mesh.proofs.Chains.{Chaining}
use Rattle.ele_mesh.proofs.chain.chain.Given as goal

abbrev pub invariant-loop-f : goal.invariant-loop-f
invariant-loop-f l = Chaining l.vs l.m l.initial.heads l.initial.links l.heads l.links l.f
