use Rattle.area.proofs.Headers.{tables_room, tabled}
use Rattle.area.proofs.Soundness.{sound_holds}
use Rattle.close_check.proofs.Checks.{early_area, early_heard, early_none}
use mathlib.Core.Path.{sym, ◌∙◌}
use Rattle.close_check.proofs.check.check_early.Goals as goal

pub returns-then-not-area_sound : goal.returns-then-not-area_sound
returns-then-not-area_sound c = early_area _ (sym c.area_sound.ensures ∙ c.if-not-area_sound.true)

pub tables_of-requires : goal.tables_of-requires
tables_of-requires c = tables_room (sound_holds _ (sym c.area_sound.ensures ∙ c.if-not-area_sound.false) (λ i. (c.type_inv.area i).fits))

pub all_heard-requires : goal.all_heard-requires
all_heard-requires c = tabled c.tables_of.ensures (sound_holds _ (sym c.area_sound.ensures ∙ c.if-not-area_sound.false) (λ i. (c.type_inv.area i).fits))

pub returns-then-not-all_heard : goal.returns-then-not-all_heard
returns-then-not-all_heard c = early_heard _ (sym c.area_sound.ensures ∙ c.if-not-area_sound.false) (sym c.all_heard.ensures ∙ c.if-not-all_heard.true)

pub returns : goal.returns
returns c = early_none _ (sym c.area_sound.ensures ∙ c.if-not-area_sound.false) (sym c.all_heard.ensures ∙ c.if-not-all_heard.false)
