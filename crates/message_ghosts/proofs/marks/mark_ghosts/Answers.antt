use native.Mathlib.Omega.{arith}
use Rattle.message_ghosts.proofs.Marking.{header_fits, words_few, none_sent, all_marked, room_cleared}
use Rattle.message_ghosts.proofs.marks.mark_ghosts.Goals as goal

pub returns-then-n-eq0 : goal.returns-then-n-eq0
returns-then-n-eq0 c =
    let pre = c.requires in
    none_sent _ _ _ _ _ pre.0.0.sending _ _ _ pre.1 (c.fill.ensures.after (λ y e. e)) pre.0.0.many c.if-n-eq0.true

pub tree_count-requires : goal.tree_count-requires
tree_count-requires c = header_fits _ _ _ _ _ c.requires.0.0.sending

pub ghost_count-requires : goal.ghost_count-requires
ghost_count-requires c = header_fits _ _ _ _ _ c.requires.0.0.sending

pub overflow_add-records : goal.overflow_add-records
overflow_add-records c =
    let pre = c.requires in
    let tree_count_call = c.tree_count in
    omega (arith, words_few _ _ _ _ _ pre.0.0.sending pre.0.1 _ _ tree_count_call.ensures c.ghost_count.ensures)

pub mark_within-requires : goal.mark_within-requires
mark_within-requires c =
    let pre = c.requires in
    (pre.0, omega arith, omega (arith, c.tree_count.ensures, c.ghost_count.ensures, c.div_ceil-words.ensures), c.if-words-le256.true, omega arith, room_cleared pre.1 (c.fill.ensures.after (λ y e. e)))

pub returns-then-words-le256 : goal.returns-then-words-le256
returns-then-words-le256 c =
    let pre = c.requires in
    all_marked _ _ _ _ _ pre.0.0.sending _ _ _ _ _ pre.1 (c.fill.ensures.after (λ y e. e)) pre.0.0.begins pre.0.0.many c.mark_within.ensures

pub mark_within-requires-then-words-le2048 : goal.mark_within-requires-then-words-le2048
mark_within-requires-then-words-le2048 c =
    let pre = c.requires in
    (pre.0, omega arith, omega (arith, c.tree_count.ensures, c.ghost_count.ensures, c.div_ceil-words.ensures), c.if-words-le2048.true, omega arith, room_cleared pre.1 (c.fill.ensures.after (λ y e. e)))

pub returns-then-words-le2048 : goal.returns-then-words-le2048
returns-then-words-le2048 c =
    let pre = c.requires in
    all_marked _ _ _ _ _ pre.0.0.sending _ _ _ _ _ pre.1 (c.fill.ensures.after (λ y e. e)) pre.0.0.begins pre.0.0.many c.mark_within-then-words-le2048.ensures

pub mark_within-requires-2 : goal.mark_within-requires-2
mark_within-requires-2 c =
    let pre = c.requires in
    let tree_count_call = c.tree_count in
    (pre.0, omega arith, omega (arith, c.tree_count.ensures, c.ghost_count.ensures, c.div_ceil-words.ensures), omega (arith, c.div_ceil-words.ensures, words_few _ _ _ _ _ pre.0.0.sending pre.0.1 _ _ tree_count_call.ensures c.ghost_count.ensures), omega arith, room_cleared pre.1 (c.fill.ensures.after (λ y e. e)))

pub returns : goal.returns
returns c =
    let pre = c.requires in
    all_marked _ _ _ _ _ pre.0.0.sending _ _ _ _ _ pre.1 (c.fill.ensures.after (λ y e. e)) pre.0.0.begins pre.0.0.many c.mark_within-2.ensures
