use Rattle.plan_write.proofs.Writing.{pair_unsent, pair_sent, pair_some, pair_small}
use Rattle.plan_write.proofs.moves.moved.Goals as goal

pub returns-then-trees-eq0 : goal.returns-then-trees-eq0
returns-then-trees-eq0 c = pair_unsent c.requires c.sent-trees.ensures.0 c.sent-trees.ensures.1 c.if-trees-eq0.true

pub returns : goal.returns
returns c =
    let pre = c.requires in
    let sent = c.sent-trees in
    let n = c.if-trees-eq0.false in
    record {
      some = pair_sent pre sent.ensures.0 sent.ensures.1 n;
      row = pair_some pre sent.ensures.0 sent.ensures.1 n;
      small = pair_small pre sent.ensures.0 sent.ensures.1 n;
    }
