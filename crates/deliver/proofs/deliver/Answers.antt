use Rattle.deliver.proofs.Written.{deliver_unsound}
use mathlib.Core.Path.{sym, ◌∙◌}
use Rattle.deliver.proofs.deliver.Goals as goal

pub returns-then-not-area_sound : goal.returns-then-not-area_sound
returns-then-not-area_sound c = deliver_unsound _ _ c.area_sound.ensures (c.if-not-area_sound.true)

pub deliver_sound-requires : goal.deliver_sound-requires
deliver_sound-requires c = sym c.area_sound.ensures ∙ c.if-not-area_sound.false
