use Rattle.plan_write.specs.Means.{Put}
use Rattle.plan_write.specs.Moves.{moves_text}
use lib.ListN.{length}
use mathlib.Core.Path.{◌≡◌}
use Rattle.plan_write.proofs.moves.put_moves.Given as goal

abbrev pub invariant-loop-p : goal.invariant-loop-p
invariant-loop-p l = Put l.initial.out l.out l.at l.next (moves_text l.old l.new l.p) × (length l.out ≡ length l.initial.out)
