use Rattle.ele_text.proofs.Splits.{Passed}
use Rattle.ele_text.proofs.field.until_either.Given as goal

abbrev pub invariant-loop-i : goal.invariant-loop-i
invariant-loop-i l = Passed l.x l.y l.s l.i
