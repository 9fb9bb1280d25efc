use Rattle.plan_write.specs.Moves.{moves_text}
use Rattle.pattern.specs.Sets.{sends_to}
use Rattle.offsets.specs.Table.{ranks}
use Rattle.encoding.specs.Below.{count_below, sum_below}
use lib.ListN.{length}
use mathlib.Core.Path.{◌≡◌}
use Rattle.plan_write.proofs.moves.moves_size.Given as goal

abbrev pub invariant-loop-p : goal.invariant-loop-p
invariant-loop-p l = (l.bytes ≡ length (moves_text l.old l.new l.p)) × (l.moves ≡ sum_below l.p (λ i. count_below (ranks l.old) (sends_to l.old l.new i)))
