use Rattle.plan_write.proofs.Writing.{output_small, output_is, answer_short, answer_done}
use native.Mathlib.Omega.{arith}
use Rattle.plan_write.proofs.output.write_moves.Goals as goal

pub ranks-requires : goal.ranks-requires
ranks-requires c = c.requires.agree.old_ranks

pub trees-requires : goal.trees-requires
trees-requires c = c.requires.agree.old_ranks

pub output_length-requires : goal.output_length-requires
output_length-requires c =
    let pre = c.requires in
    let ranks = c.ranks in
    let moves-size = c.moves_size-size in
    output_small _ _ pre ranks.ensures.0 c.trees.ensures moves-size.ensures.0 moves-size.ensures.1

pub returns-then-out-output_length : goal.returns-then-out-output_length
returns-then-out-output_length c =
    let ranks = c.ranks in
    let trees = c.trees in
    let moves-size = c.moves_size-size in
    let output_length = c.output_length in
    let e = output_is _ _ ranks.ensures.0 trees.ensures moves-size.ensures.0 moves-size.ensures.1 output_length.ensures in answer_short _ _ (omega arith)

pub put_output-end-requires : goal.put_output-end-requires
put_output-end-requires c =
    let ranks = c.ranks in
    let trees = c.trees in
    let moves-size = c.moves_size-size in
    let output_length = c.output_length in
    let pre = c.requires in
    let e = output_is _ _ ranks.ensures.0 trees.ensures moves-size.ensures.0 moves-size.ensures.1 output_length.ensures in record { tables = pre; counted = moves-size.ensures.1; fits = record { room = omega arith } }

pub returns : goal.returns
returns c =
    let ranks = c.ranks in
    let trees = c.trees in
    let moves-size = c.moves_size-size in
    let output_length = c.output_length in
    let put-output = c.put_output-end in
    let e = output_is _ _ ranks.ensures.0 trees.ensures moves-size.ensures.0 moves-size.ensures.1 output_length.ensures in answer_done _ (record { room = omega arith }) put-output.ensures
