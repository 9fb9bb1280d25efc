use Rattle.encoding.proofs.Pieces.{splice_of}
use Rattle.encoding.proofs.record.copy64.Goals as goal

pub returns : goal.returns
returns c = splice_of _ _ c.store64.ensures c.load64-r.ensures
