use Rattle.offsets.specs.Means.{entry_ok_at}
use Rattle.encoding.specs.Below.{all_below}
use mathlib.Core.Bool.{true}
use mathlib.Core.Path.{◌≡◌}
use Rattle.offsets.proofs.table.entries_ok.Given as goal

abbrev pub invariant-loop-p : goal.invariant-loop-p
invariant-loop-p l = all_below l.p (entry_ok_at l.t l.trees) ≡ true
