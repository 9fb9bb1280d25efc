use Rattle.table_fault.proofs.Entries.{count_less, count_empty, count_right}
use Rattle.table_fault.proofs.table.check_count.Goals as goal

pub returns-then-end-first : goal.returns-then-end-first
returns-then-end-first c = count_less _ _ c.first_of-first.ensures c.if-end-first.true

pub returns-then-negative-end : goal.returns-then-negative-end
returns-then-negative-end c = count_empty _ _ c.first_of-first.ensures c.if-end-first.false c.negative.ensures c.if-negative-end.true

pub returns : goal.returns
returns c = count_right _ _ c.first_of-first.ensures c.if-end-first.false c.negative.ensures c.if-negative-end.false
