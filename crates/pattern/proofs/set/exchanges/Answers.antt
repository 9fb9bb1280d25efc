use Rattle.pattern.specs.Means.{exchanges_tree}
use Rattle.pattern.proofs.Sets.{gets_sends}
use mathlib.Core.Path.{◌∙◌, sym}
use Rattle.pattern.proofs.set.exchanges.Goals as goal

pub returns-then-sending : goal.returns-then-sending
unfolding exchanges_tree
returns-then-sending c = rw c.if-sending.true c.sends_near.ensures

pub returns : goal.returns
unfolding exchanges_tree
returns c =
    let if1 = c.if-sending in
    let pre = c.requires in
    rw if1.false (c.sends_some.ensures ∙ sym (gets_sends _ _ pre.pair.tables _ _ pre.pair.receiver_below pre.pair.sender_below))
