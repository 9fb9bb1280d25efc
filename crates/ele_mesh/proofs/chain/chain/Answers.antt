use borrow.Author.Rules.{rules}
use Rattle.ele_mesh.proofs.Chains.{chaining_none, chaining_more, blank_filled}
use Rattle.ele_mesh.proofs.chain.chain.Goals as goal

pub loop-f-init : goal.loop-f-init
loop-f-init c = chaining_none _ _ _ _ c.requires.1 (search rules) c.requires.2.faces (blank_filled _ c.requires.2.hashed (search rules))

pub loop-f-preserved : goal.loop-f-preserved
loop-f-preserved c = chaining_more _ _ c.loop-f.invariant c.requires.0 c.requires.1 c.loop-f-test.true c.hash_of-h.ensures.0 c.hash_of-h.ensures.1
