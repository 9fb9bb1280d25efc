use Rattle.close.proofs.Slots.{ghosts_copied}
use Rattle.close.proofs.join.write_ghosts.Goals as goal

pub returns : goal.returns
returns c = ghosts_copied _ _ _ _ _ c.requires.source c.copy_words.ensures
