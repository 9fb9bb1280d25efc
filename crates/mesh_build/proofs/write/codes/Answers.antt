use Rattle.mesh_build.proofs.Writing.{codes_word}
use lib.Dec.{lit≤}
use Rattle.mesh_build.proofs.write.codes.Goals as goal

pub code-requires : goal.code-requires
code-requires c = c.requires.codes 0 (lit≤ tt)

pub code-requires-2 : goal.code-requires-2
code-requires-2 c = c.requires.codes 1 (lit≤ tt)

pub code-requires-3 : goal.code-requires-3
code-requires-3 c = c.requires.codes 2 (lit≤ tt)

pub code-requires-4 : goal.code-requires-4
code-requires-4 c = c.requires.codes 3 (lit≤ tt)

pub code-requires-5 : goal.code-requires-5
code-requires-5 c = c.requires.codes 4 (lit≤ tt)

pub code-requires-6 : goal.code-requires-6
code-requires-6 c = c.requires.codes 5 (lit≤ tt)

pub returns : goal.returns
returns c = codes_word _ _ c.requires c.code.ensures c.code-2.ensures c.code-3.ensures c.code-4.ensures c.code-5.ensures c.code-6.ensures c.from_le_bytes.ensures
