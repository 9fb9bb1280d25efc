use lib.Seq.{length-take-le}
use mathlib.Core.Path.{sym}
use native.Mathlib.Omega.{arith}
use Rattle.ele_text.proofs.Rows.{row_read_lem}
use Rattle.ele_text.proofs.line.row_of.Goals as goal

pub slice_bounds-plain_row-end : goal.slice_bounds-plain_row-end
slice_bounds-plain_row-end c = sym (length-take-le _ _ (omega arith))

pub returns : goal.returns
returns c = row_read_lem _ _ c.until_either-e.ensures.0 c.plain_row.ensures
