use Rattle.records.proofs.Forms.{number_at_lem}
use mathlib.Core.Path.{◌∙◌, sym}
use Rattle.records.proofs.read.number_of.Goals as goal

pub returns : goal.returns
returns c = c.read_u32.ensures ∙ sym (number_at_lem _ _)
