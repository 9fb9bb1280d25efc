use Rattle.records.proofs.Forms.{code_at}
use mathlib.Core.Path.{◌∙◌, sym}
use Rattle.records.proofs.read.code_of.Goals as goal

pub returns : goal.returns
returns c = c.from.ensures ∙ sym (code_at _ _ _ c.requires.1)
