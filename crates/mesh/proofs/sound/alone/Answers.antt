use Rattle.mesh.proofs.Checking.{alone_read}
use Rattle.mesh.proofs.sound.alone.Goals as goal

pub returns : goal.returns
returns c =
    alone_read _ _ _ c.shape_of-shape.ensures c.shape_ok.ensures c.zeros_ok.ensures c.region_ok.ensures c.number_of.ensures c.dimension_of.ensures
