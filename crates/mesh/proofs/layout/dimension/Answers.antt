use Rattle.mesh.specs.Mesh.{mesh_dimension}
use Rattle.mesh.proofs.layout.dimension.Goals as goal

pub returns : goal.returns
unfolding mesh_dimension
returns c = c.read_u32.ensures
