use Rattle.message_build.proofs.Ghosts.{Counted}
use Rattle.message_build.proofs.length.member_count.Given as goal

abbrev pub invariant-loop-word : goal.invariant-loop-word
invariant-loop-word l = Counted l.marks l.word-index l.count
