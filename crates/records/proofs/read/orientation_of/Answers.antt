use Rattle.records.proofs.Forms.{faces_other}
use Rattle.records.specs.Record.{orientation_of}
use mathlib.Core.Path.{◌∙◌, sym}
use Rattle.records.proofs.read.orientation_of.Goals as goal

pub returns-then-faces_of-eq4 : goal.returns-then-faces_of-eq4
unfolding orientation_of
returns-then-faces_of-eq4 c = rw (c.code_of-code.ensures, sym c.faces_of.ensures.0 ∙ c.if-faces_of-eq4.true)

pub returns : goal.returns
unfolding orientation_of
returns c = rw (c.code_of-code.ensures, faces_other _ (λ e. c.if-faces_of-eq4.false (c.faces_of.ensures.0 ∙ e)))
