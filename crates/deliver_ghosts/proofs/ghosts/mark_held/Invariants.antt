use Rattle.deliver_ghosts.specs.Means.{held_at, Marked}
use Rattle.deliver_ghosts.proofs.ghosts.mark_held.Given as goal

abbrev pub invariant-loop-i : goal.invariant-loop-i
invariant-loop-i l = Marked l.initial.marks (held_at l.area l.at l.i) l.marks
