use Rattle.offsets.specs.Table.{ranks_ok}
use Rattle.encoding.proofs.Below.{and_fst, and_snd}
use Rattle.pattern.proofs.tables.agree.Goals as goal

pub ranks-requires : goal.ranks-requires
ranks-requires c = and_fst _ _ c.requires

pub ranks-requires-2 : goal.ranks-requires-2
ranks-requires-2 c = and_snd (ranks_ok c.args.old.now) _ c.requires

pub trees-requires : goal.trees-requires
trees-requires c = and_fst _ _ c.requires

pub trees-requires-2 : goal.trees-requires-2
trees-requires-2 c = and_snd (ranks_ok c.args.old.now) _ c.requires

pub returns : goal.returns
returns c = rw (c.ranks.ensures.0, c.ranks-2.ensures.0, c.trees.ensures, c.trees-2.ensures)
