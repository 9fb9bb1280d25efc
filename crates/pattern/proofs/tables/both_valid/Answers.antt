use Rattle.offsets.specs.Table.{ranks_ok}
use Rattle.encoding.proofs.Below.{and_fst, and_snd}
use Rattle.pattern.proofs.tables.both_valid.Goals as goal

pub valid-requires : goal.valid-requires
valid-requires c = and_fst _ _ c.requires

pub valid-requires-2 : goal.valid-requires-2
valid-requires-2 c = and_snd (ranks_ok c.args.old.now) _ c.requires

pub returns : goal.returns
returns c = rw (c.valid.ensures, c.valid-2.ensures)
