use Rattle.records.proofs.Forms.{neighbour_at}
use mathlib.Core.Path.{◌∙◌, sym}
use Rattle.records.proofs.read.neighbour_of.Goals as goal

pub returns : goal.returns
returns c = c.read_u32.ensures ∙ sym (neighbour_at _ _ _ c.requires.1)
