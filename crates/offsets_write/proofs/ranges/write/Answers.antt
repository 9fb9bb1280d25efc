use Rattle.offsets_write.proofs.Partitions.{end_turn, write_turn, write_done}
use Rattle.offsets_write.specs.Partition.{end_below, entries_below}
use Rattle.encoding.proofs.Pieces.{splice_none}
use mathlib.Core.Path.{refl, sym}
use native.Mathlib.Omega.{arith}
use borrow.Author.Rules.{rules}
use Rattle.offsets_write.proofs.ranges.write.Goals as goal

pub loop-p-init : goal.loop-p-init
unfolding end_below entries_below
loop-p-init c = (refl, sym (splice_none _ 0), refl)

pub loop-p-preserved : goal.loop-p-preserved
loop-p-preserved c =
    let i = c.loop-p.invariant in
    (end_turn _ _ _ _ _ i.0 c.next_end-end.ensures, write_turn _ _ _ _ _ _ _ _ i.0 c.entry_of.ensures i.1 c.write_u64.ensures (omega arith), search rules)

pub returns : goal.returns
returns c =
    let i = c.loop-p.invariant in write_done _ _ _ _ _ _ _ _ c.loop-p.auto.p-end (omega arith) i.0 i.1 c.write_u64-2.ensures (omega arith)
