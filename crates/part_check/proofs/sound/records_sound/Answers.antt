use mathlib.Core.Path.{refl, ◌∙◌}
use Rattle.part_check.proofs.OneLoop.{records_are}
use Rattle.part_check.proofs.sound.records_sound.Goals as goal

-- src/sound.rt:118:1
pub returns : goal.returns
returns c = c.records_sound.ensures ∙ records_are _ _ refl c.ghost_at.ensures refl
