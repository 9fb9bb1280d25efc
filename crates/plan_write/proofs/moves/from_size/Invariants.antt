use Rattle.plan_write.specs.Moves.{moves_from}
use Rattle.pattern.specs.Sets.{sends_to}
use Rattle.encoding.specs.Below.{count_below}
use lib.ListN.{length}
use mathlib.Core.Path.{◌≡◌}
use Rattle.plan_write.proofs.moves.from_size.Given as goal

abbrev pub invariant-loop-q : goal.invariant-loop-q
invariant-loop-q l = (l.bytes ≡ length (moves_from l.old l.new l.p l.q)) × (l.moves ≡ count_below l.q (sends_to l.old l.new l.p))
