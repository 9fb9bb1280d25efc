use Rattle.plan_write.specs.Means.{Put}
use Rattle.plan_write.specs.Moves.{moves_from}
use lib.ListN.{length}
use mathlib.Core.Path.{◌≡◌}
use Rattle.plan_write.proofs.moves.put_from.Given as goal

abbrev pub invariant-loop-q : goal.invariant-loop-q
invariant-loop-q l = Put l.initial.out l.out l.at l.next (moves_from l.old l.new l.p l.q) × (length l.out ≡ length l.initial.out)
