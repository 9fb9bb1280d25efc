use Rattle.ele_text.proofs.Numbers.{Reading}
use Rattle.ele_text.proofs.field.read_number.Given as goal

abbrev pub invariant-loop-b : goal.invariant-loop-b
invariant-loop-b l = Reading l.s l.b-index l.v
