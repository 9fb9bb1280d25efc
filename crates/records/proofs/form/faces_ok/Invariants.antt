use mathlib.Core.Path.{◌≡◌}
use mathlib.Core.Bool.{true}
use Rattle.encoding.specs.Below.{all_below}
use Rattle.encoding.specs.Pieces.{piece}
use Rattle.records.specs.Record.{core_size}
use Rattle.records.specs.Means.{face_form}
use Rattle.records.proofs.form.faces_ok.Given as goal

abbrev pub invariant-loop-face : goal.invariant-loop-face
invariant-loop-face l = all_below l.face (face_form l.own (piece l.bs l.at core_size)) ≡ true
