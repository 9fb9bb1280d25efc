use Rattle.offsets_write.specs.Means.{next_entry}
use Rattle.encoding.proofs.Below.{tests, and_snd}
use lib.Dec.{ltb}
use Rattle.offsets_write.proofs.ranges.entry_of.Goals as goal

pub overflow_add-result : goal.overflow_add-result
overflow_add-result c = omega (tests, and_snd (ltb 0 c.args.count) _ c.if-count-f.true)

pub returns-then-count-f : goal.returns-then-count-f
unfolding next_entry
returns-then-count-f c = rw c.if-count-f.true (omega (tests, and_snd (ltb 0 c.args.count) _ c.if-count-f.true))

pub returns-else-count-f : goal.returns-else-count-f
unfolding next_entry
returns-else-count-f c = rw c.if-count-f.false
