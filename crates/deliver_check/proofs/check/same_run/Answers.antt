use Rattle.deliver_check.proofs.Checking.{run_read}
use Rattle.deliver_check.proofs.check.same_run.Goals as goal

pub returns : goal.returns
returns c =
    let epoch = c.epoch in
    let epoch2 = c.epoch-2 in
    let dimension = c.dimension in
    let dimension2 = c.dimension-2 in
    let trees-below = c.trees_below in
    let trees = c.trees in
    let ranks = c.ranks in
    run_read _ _ epoch.ensures epoch2.ensures dimension.ensures dimension2.ensures trees-below.ensures trees.ensures ranks.ensures c.ranks-2.ensures
