use Prim.Native.Nat.{◌≤◌}
use mathlib.Core.Path.{◌≡◌}
use mathlib.Core.Bool.{true}
use Rattle.encoding.specs.Below.{all_below}
use Rattle.encoding.specs.Pieces.{piece}
use Rattle.records.specs.Record.{core_size}
use Rattle.records.specs.Means.{unused_from}
use Rattle.records.proofs.form.unused_from.Given as goal

abbrev pub invariant-loop-face : goal.invariant-loop-face
invariant-loop-face l = (l.faces ≤ l.face) × (all_below l.face (unused_from l.faces (piece l.bs l.at core_size)) ≡ true)
