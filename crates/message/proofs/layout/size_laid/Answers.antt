use Rattle.message.proofs.Checking.{size_short, size_read}
use mathlib.Core.Path.{sym}
use Rattle.message.proofs.layout.size_laid.Goals as goal

pub returns-then-message-lt32 : goal.returns-then-message-lt32
returns-then-message-lt32 c = sym (size_short _ c.if-message-lt32.true)

pub returns : goal.returns
returns c =
    let dimension = c.dimension in
    let tree_count_call = c.tree_count in
    let ghost-count = c.ghost_count in
    let dimension_ok_call = c.dimension_ok in
    size_read _ dimension.ensures tree_count_call.ensures ghost-count.ensures dimension_ok_call.ensures c.ghost_at.ensures
