use Rattle.plan_write.proofs.Writing.{pair_none}
use lib.ListN.{length}
use mathlib.Core.Path.{sym, ap, ◌∙◌}
use Rattle.plan_write.proofs.moves.pair_size.Goals as goal

pub returns-in-None : goal.returns-in-None
returns-in-None c = (sym (ap length (pair_none _ _ _ _ c.in-None.ensures)), rw c.in-None.ensures)

pub row_length-requires : goal.row_length-requires
row_length-requires c = c.in-Some.ensures.small

pub returns-in-Some : goal.returns-in-Some
returns-in-Some c = (c.row_length.ensures ∙ sym (ap length c.in-Some.ensures.row), rw c.in-Some.ensures.some)
