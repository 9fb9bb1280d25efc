use mathlib.Core.Path.{sym, ◌∙◌}
use Rattle.linked.proofs.Numbers.{numbered}
use Rattle.linked.proofs.FromOneEnd.{sound_unnumbered, sound_numbered}
use Rattle.linked.proofs.check.records_sound.Goals as goal

pub returns-then-not-ghosts_numbered : goal.returns-then-not-ghosts_numbered
returns-then-not-ghosts_numbered c = sound_unnumbered _ _ (sym c.ghosts_numbered.ensures ∙ c.if-not-ghosts_numbered.true)

pub linked_of_all-requires : goal.linked_of_all-requires
linked_of_all-requires c = (c.requires.0, numbered _ _ (sym c.ghosts_numbered.ensures ∙ c.if-not-ghosts_numbered.false) c.requires.1 c.requires.2)

pub returns : goal.returns
returns c = sound_numbered _ _ (sym c.ghosts_numbered.ensures ∙ c.if-not-ghosts_numbered.false) c.linked_of_all.ensures
