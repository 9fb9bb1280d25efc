use Rattle.message_reader.proofs.Stepped.{piece_is}
use Rattle.message_reader.proofs.place.read.Goals as goal

pub returns : goal.returns
returns c = piece_is c.args.message c.args.at c.next-step.result c.next-step.ensures
