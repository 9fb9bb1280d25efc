use Rattle.plan_write.proofs.Writing.{put_byte}
use borrow.Author.Rules.{rules}
use Rattle.plan_write.proofs.put.put_byte.Goals as goal

pub returns : goal.returns
returns c = put_byte _ _ _ (search rules)
