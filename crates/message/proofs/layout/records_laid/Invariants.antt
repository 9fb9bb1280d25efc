use Rattle.message.specs.Means.{laid_core}
use Rattle.message.specs.Layout.{record_laid, after_last}
use Rattle.encoding.specs.Below.{all_below}
use mathlib.Core.Bool.{true, ◌&&◌}
use mathlib.Core.Path.{◌≡◌}
use Rattle.message.proofs.layout.records_laid.Given as goal

abbrev pub invariant-loop-i : goal.invariant-loop-i
invariant-loop-i l = all_below l.i (λ k. record_laid l.row.message.now (laid_core l.row.message.now l.row.start l.row.stride k) && after_last (laid_core l.row.message.now l.row.start l.row.stride) k) ≡ true
