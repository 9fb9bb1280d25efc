use Rattle.area.specs.Area.{bit_sound}
use Rattle.encoding.specs.Below.{all_below}
use Prim.Native.Nat.{◌+◌, ◌*◌}
use mathlib.Core.Path.{◌≡◌}
use mathlib.Core.Bool.{true}
use Rattle.area_check.proofs.sound.word_sound.Given as goal

abbrev pub invariant-loop-b : goal.invariant-loop-b
invariant-loop-b l = all_below l.b (λ i. bit_sound l.area (64 * l.w + i)) ≡ true
