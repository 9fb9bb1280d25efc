use Rattle.message_build.proofs.Answers.{ghosts_go}
use Rattle.message_build.proofs.length.going.Goals as goal

pub returns : goal.returns
returns c = ghosts_go _ _ _ _ _ _ _ c.requires.0.0 _ c.mark_ghosts.ensures c.member_count.ensures
