use Rattle.encoding.proofs.Pieces.{splice_of}
use Rattle.encoding.proofs.record.copy40.Goals as goal

pub returns : goal.returns
returns c = splice_of _ _ c.store40.ensures c.load40-r.ensures
