use Prim.Native.Nat.{◌+◌}
use mathlib.Core.Path.{◌≡◌}
use mathlib.Core.Bool.{true}
use lib.Dec.{eqb}
use Rattle.encoding.specs.Below.{all_below}
use Rattle.records.specs.Record.{number_of}
use Rattle.message.specs.Layout.{message_tree}
use Rattle.deliver_check.proofs.check.trees_from.Given as goal

abbrev pub invariant-loop-i : goal.invariant-loop-i
invariant-loop-i l = all_below l.i (λ k. eqb (number_of (message_tree l.message k)) (l.first + k)) ≡ true
