use mathlib.Core.Path.{◌≡◌}
use Rattle.message_ghosts.specs.Means.{number_in}
use Rattle.message_ghosts.specs.MeansSent.{is_beside_before}
use Rattle.message_ghosts.proofs.rule.beside_before.Given as goal

abbrev pub invariant-loop-face : goal.invariant-loop-face
invariant-loop-face l = l.found ≡ is_beside_before l.sending (number_in l.sending.part.now l.count l.local.0) l.face
