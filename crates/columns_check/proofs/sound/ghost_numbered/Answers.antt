use Rattle.columns_check.proofs.Finding.{numbered_not, numbered_first, numbered_next}
use Rattle.columns_check.proofs.sound.ghost_numbered.Goals as goal

pub returns-then-not-number-columns : goal.returns-then-not-number-columns
returns-then-not-number-columns c = numbered_not _ _ _ _ _ _ c.word-number.ensures c.in_range.ensures (c.if-not-number-columns.true)

pub returns-then-j-eq0 : goal.returns-then-j-eq0
returns-then-j-eq0 c =
    let word = c.word-number in
    let in_range_call = c.in_range in
    let if1 = c.if-not-number-columns in
    numbered_first _ _ _ _ _ _ word.ensures in_range_call.ensures (if1.false) c.if-j-eq0.true

pub returns : goal.returns
returns c =
    let word = c.word-number in
    let in_range_call = c.in_range in
    let if1 = c.if-not-number-columns in
    let if2 = c.if-j-eq0 in
    numbered_next _ _ _ _ _ _ word.ensures in_range_call.ensures (if1.false) if2.false c.word.ensures
