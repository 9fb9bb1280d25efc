use native.Mathlib.Omega.{arith}
use mathlib.Core.Path.{ap, ◌∙◌}
use Rattle.offsets.specs.Table.{entry}
use Rattle.restart.proofs.Writing.{entry_read, padding_start, padding_more, padding_done}
use Rattle.restart.proofs.entries.write_entries.Goals as goal

pub loop-p-init : goal.loop-p-init
loop-p-init c = padding_start _ _

pub loop-p-preserved : goal.loop-p-preserved
loop-p-preserved c = padding_more _ _ c.loop-p.invariant (omega arith) (entry_read _ _ c.ranks-last.ensures.0 (c.entry-entry.ensures ∙ ap (entry c.args.table.now) c.min.ensures)) c.write_u64.ensures

pub returns : goal.returns
returns c = padding_done _ _ _ c.loop-p.invariant (omega arith)
