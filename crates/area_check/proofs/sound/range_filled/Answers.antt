use mathlib.Core.Path.{ap, ◌∙◌}
use Rattle.area.specs.Layout.{heard_words}
use Rattle.area.proofs.Tabled.{tabled_pair, tabled_long}
use Rattle.area_check.proofs.Checking.{found, range_none, due, range_held, range_zero}
use native.Mathlib.Omega.{arith}
use Rattle.area_check.proofs.sound.range_filled.Goals as goal

pub sent-sent-requires : goal.sent-sent-requires
sent-sent-requires c = tabled_pair c.requires.0 c.requires.1 c.rank-rank.ensures

pub returns-then-count-eq0 : goal.returns-then-count-eq0
returns-then-count-eq0 c =
    let pre = c.requires in
    let rank = c.rank-rank in
    let sent = c.sent-sent in
    found (range_none pre.0 pre.1 rank.ensures sent.ensures.0 sent.ensures.1 c.if-count-eq0.true)

pub first_tree-own-requires : goal.first_tree-own-requires
first_tree-own-requires c = omega (arith, tabled_long c.requires.0 c.rank-rank.ensures)

pub overflow_cast-own : goal.overflow_cast-own
overflow_cast-own c =
    let pre = c.requires in
    let rank = c.rank-rank in
    let sent = c.sent-sent in
    let if1 = c.if-count-eq0 in
    let d = due pre.0 pre.1 rank.ensures sent.ensures.0 sent.ensures.1 if1.false c.first_tree-own.ensures in omega (arith, d.low, d.most)

pub to_local-tree-requires : goal.to_local-tree-requires
to_local-tree-requires c =
    let pre = c.requires in
    let rank = c.rank-rank in
    let sent = c.sent-sent in
    let if1 = c.if-count-eq0 in
    (due pre.0 pre.1 rank.ensures sent.ensures.0 sent.ensures.1 if1.false c.first_tree-own.ensures).low

pub slots_held-requires : goal.slots_held-requires
slots_held-requires c =
    let pre = c.requires in
    let rank = c.rank-rank in
    let sent = c.sent-sent in
    let if1 = c.if-count-eq0 in
    let first_tree_call = c.first_tree-own in
    let to_local = c.to_local-tree in
    let slots-place = c.slots_place in
    let ranks = c.ranks in
    let d = due pre.0 pre.1 rank.ensures sent.ensures.0 sent.ensures.1 if1.false first_tree_call.ensures in (omega (arith, to_local.ensures, d.low, d.high, slots-place.ensures.1, ranks.ensures, ap heard_words ranks.ensures), d.most)

pub returns-then-heard : goal.returns-then-heard
returns-then-heard c =
    let pre = c.requires in
    let rank = c.rank-rank in
    let sent = c.sent-sent in
    let if1 = c.if-count-eq0 in
    let first_tree_call = c.first_tree-own in
    let to_local = c.to_local-tree in
    let ranks = c.ranks in
    let slots-place = c.slots_place in
    let heard = c.heard in
    let if2 = c.if-heard in
    c.then_some.ensures ∙ found (range_held pre.0 pre.1 rank.ensures sent.ensures.0 sent.ensures.1 if1.false first_tree_call.ensures _ to_local.ensures ranks.ensures slots-place.ensures.0 heard.ensures if2.true c.slots_held.ensures)

pub slice_bounds-all_zero-end : goal.slice_bounds-all_zero-end
slice_bounds-all_zero-end c =
    let to_local = c.to_local-tree in
    let pre = c.requires in
    let rank = c.rank-rank in
    let sent = c.sent-sent in
    let if1 = c.if-count-eq0 in
    let first_tree_call = c.first_tree-own in
    let slots-place = c.slots_place in
    let ranks = c.ranks in
    omega (arith, to_local.ensures, due pre.0 pre.1 rank.ensures sent.ensures.0 sent.ensures.1 if1.false first_tree_call.ensures, slots-place.ensures.1, ranks.ensures, ap heard_words ranks.ensures)

pub returns : goal.returns
returns c =
    let pre = c.requires in
    let rank = c.rank-rank in
    let sent = c.sent-sent in
    let if1 = c.if-count-eq0 in
    let first_tree_call = c.first_tree-own in
    let to_local = c.to_local-tree in
    let ranks = c.ranks in
    let slots-place = c.slots_place in
    let heard = c.heard in
    let if2 = c.if-heard in
    c.then_some-2.ensures ∙ found (range_zero pre.0 pre.1 rank.ensures sent.ensures.0 sent.ensures.1 if1.false first_tree_call.ensures _ to_local.ensures ranks.ensures slots-place.ensures.0 heard.ensures if2.false c.all_zero.ensures)
