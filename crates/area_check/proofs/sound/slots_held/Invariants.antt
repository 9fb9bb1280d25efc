use Rattle.encoding.specs.Below.{all_below}
use Rattle.area_check.specs.Means.{slot_held}
use Rattle.records.specs.Record.{tree_size}
use mathlib.Core.Bool.{true}
use mathlib.Core.Path.{◌≡◌}
use Prim.Native.Nat.{◌+◌, ◌*◌}
use Rattle.area_check.proofs.sound.slots_held.Given as goal

abbrev pub invariant-loop-j : goal.invariant-loop-j
invariant-loop-j l = all_below l.j (λ i. slot_held l.area (l.at + tree_size * i) (l.first + i)) ≡ true
