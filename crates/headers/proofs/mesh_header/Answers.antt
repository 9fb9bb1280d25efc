use mathlib.Core.Path.{◌∙◌}
use Rattle.headers.proofs.FirstWrong.{of_error}
use Rattle.headers.specs.Calls.{mesh_header_of}
use Rattle.headers.proofs.mesh_header.Goals as goal

pub returns : goal.returns
unfolding mesh_header_of
returns c = rw c.err.ensures.value (of_error c.check_mesh.result ∙ c.check_mesh.ensures)
