use Rattle.ele_mesh.proofs.Joins.{three_rows}
use Rattle.ele_mesh.proofs.write.rows_of.Goals as goal

pub returns : goal.returns
returns c = three_rows _ c.link_row.ensures c.link_row-2.ensures c.link_row-3.ensures
