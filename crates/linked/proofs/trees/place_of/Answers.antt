use mathlib.Core.Path.{sym, ◌∙◌}
use Rattle.ghost_links.proofs.FromOneEnd.{range_both}
use Rattle.linked.proofs.Reading.{placed_local, placed_in, placed_out}
use Rattle.linked.proofs.trees.place_of.Goals as goal

pub returns-then-x : goal.returns-then-x
returns-then-x c = placed_local _ _ _ c.if-x.true

pub to_local-requires : goal.to_local-requires
to_local-requires c = (range_both _ _ _ (sym c.in_range.ensures ∙ c.if-in_range.true)).0

pub returns-then-in_range : goal.returns-then-in_range
returns-then-in_range c =
    let if1 = c.if-x in
    let in_range_call = c.in_range in
    let if2 = c.if-in_range in
    placed_in _ _ _ if1.false (sym in_range_call.ensures ∙ if2.true) c.to_local.ensures

pub returns : goal.returns
returns c =
    let pre = c.requires in
    let if1 = c.if-x in
    let in_range_call = c.in_range in
    let if2 = c.if-in_range in
    let find = c.find in
    placed_out _ _ pre _ if1.false (sym in_range_call.ensures ∙ if2.false) find.ensures.0 c.ghost_index.ensures
