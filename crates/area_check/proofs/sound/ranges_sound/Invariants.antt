use Rattle.area_check.proofs.Checking.{Ranges}
use Rattle.area_check.proofs.sound.ranges_sound.Given as goal

abbrev pub invariant-loop-s : goal.invariant-loop-s
invariant-loop-s l = Ranges l.area l.s-end l.filled l.s
