use Rattle.message_reader.proofs.Stepped.{following_is}
use Rattle.message_reader.proofs.place.after.Goals as goal

pub returns : goal.returns
returns c = following_is c.args.message c.args.at c.next-step.result c.next-step.ensures
