use Rattle.records.proofs.Forms.{shape_at}
use mathlib.Core.Path.{◌∙◌, sym}
use Rattle.records.proofs.read.shape_of.Goals as goal

pub returns : goal.returns
returns c = c.from.ensures ∙ sym (shape_at _ _)
