use Rattle.message_ghosts.proofs.Localising.{localised}
use Rattle.message_ghosts.proofs.rule.locals_of.Goals as goal

pub returns : goal.returns
returns c =
    let pre = c.requires in
    localised _ _ _ _ _ _ _ pre.0 pre.1 pre.2 c.bound_at.ensures c.bound_at-2.ensures c.bound_at-3.ensures c.bound_at-4.ensures
