use Rattle.plan_write.proofs.Writing.{output_ranks, output_trees, output_moves, output_count, output_done}
use Rattle.plan_write.proofs.output.put_output.Goals as goal

pub put_line-a-requires : goal.put_line-a-requires
put_line-a-requires c = output_ranks c.requires c.ranks.ensures.0

pub put_line-b-requires : goal.put_line-b-requires
put_line-b-requires c =
    let pre = c.requires in
    let ranks = c.ranks in
    let put-line = c.put_line-a in
    output_trees pre ranks.ensures.0 put-line.ensures c.trees.ensures

pub put_moves-c-requires : goal.put_moves-c-requires
put_moves-c-requires c =
    let pre = c.requires in
    let ranks = c.ranks in
    let put-line = c.put_line-a in
    let trees = c.trees in
    let put-line2 = c.put_line-b in
    output_moves pre ranks.ensures.0 put-line.ensures trees.ensures put-line2.ensures

pub put_line-requires : goal.put_line-requires
put_line-requires c =
    let pre = c.requires in
    let ranks = c.ranks in
    let put-line = c.put_line-a in
    let trees = c.trees in
    let put-line2 = c.put_line-b in
    let put-moves = c.put_moves-c in
    output_count pre ranks.ensures.0 put-line.ensures trees.ensures put-line2.ensures put-moves.ensures

pub returns : goal.returns
returns c =
    let pre = c.requires in
    let ranks = c.ranks in
    let put-line = c.put_line-a in
    let trees = c.trees in
    let put-line2 = c.put_line-b in
    let put-moves = c.put_moves-c in
    let put-line3 = c.put_line in
    output_done pre ranks.ensures.0 put-line.ensures trees.ensures put-line2.ensures put-moves.ensures put-line3.ensures
