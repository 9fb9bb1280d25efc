use Rattle.plan_write.proofs.Writing.{answer_short, answer_done}
use native.Mathlib.Omega.{arith}
use Rattle.plan_write.proofs.output.write_refused.Goals as goal

pub returns-then-out-line_length : goal.returns-then-out-line_length
returns-then-out-line_length c = rw (← c.number-n.ensures) (answer_short _ _ (omega arith))

pub returns : goal.returns
returns c = rw (← c.number-n.ensures) (answer_done _ (record { room = omega arith }) c.put_line-end.ensures)
