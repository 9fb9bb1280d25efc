use Rattle.encoding.specs.Below.{all_below}
use Rattle.area_check.specs.Means.{word_sound}
use mathlib.Core.Bool.{true}
use mathlib.Core.Path.{◌≡◌}
use Rattle.area_check.proofs.sound.bits_sound.Given as goal

abbrev pub invariant-loop-w : goal.invariant-loop-w
invariant-loop-w l = all_below l.w (word_sound l.area) ≡ true
