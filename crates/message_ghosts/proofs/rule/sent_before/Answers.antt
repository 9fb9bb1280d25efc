use Rattle.message_ghosts.proofs.rule.sent_before.Goals as goal

pub returns : goal.returns
returns c = rw (c.within.ensures, c.within-2.ensures) (c.requires.before _)
