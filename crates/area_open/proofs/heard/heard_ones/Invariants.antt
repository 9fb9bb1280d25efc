use Rattle.area_open.specs.Means.{heard_ones}
use mathlib.Core.Path.{◌≡◌}
use Prim.Native.Nat.{◌≤◌, ◌*◌}
use Rattle.area_open.proofs.heard.heard_ones.Given as goal

abbrev pub invariant-loop-word : goal.invariant-loop-word
invariant-loop-word l = (l.heard ≡ heard_ones l.area l.word) × (l.heard ≤ 64 * l.word)
