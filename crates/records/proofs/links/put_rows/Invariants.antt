use mathlib.Core.Path.{◌≡◌}
use Rattle.records.proofs.Rows.{first_rows}
use Rattle.records.proofs.links.put_rows.Given as goal

abbrev pub invariant-loop-face : goal.invariant-loop-face
invariant-loop-face l = l.bs ≡ first_rows l.rows l.faces l.initial.bs l.at l.face
