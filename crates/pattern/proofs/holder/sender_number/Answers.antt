use mathlib.Core.Path.{sym, ap, ◌∙◌}
use mir.Syntax.{w32}
use mir.Facts.{to_z_pos}
use Rattle.pattern.specs.Sender.{sender_number}
use Rattle.pattern.proofs.Answers.{rank_fits}
use Rattle.pattern.proofs.holder.sender_number.Goals as goal

pub overflow_cast-result : goal.overflow_cast-result
overflow_cast-result c = record { sfits = rank_fits _ _ c.requires c.in-Some.is }

pub returns-in-Some : goal.returns-in-Some
unfolding sender_number
returns-in-Some c = to_z_pos w32 (rank_fits _ _ c.requires c.in-Some.is) ∙ sym (ap sender_number c.in-Some.is)

pub returns-in-None : goal.returns-in-None
unfolding sender_number
returns-in-None c = sym (ap sender_number c.in-None.is)
