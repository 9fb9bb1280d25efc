use Rattle.mesh.specs.Mesh.{mesh_trees}
use Rattle.mesh.proofs.layout.trees.Goals as goal

pub returns : goal.returns
unfolding mesh_trees
returns c = c.read_u32.ensures
