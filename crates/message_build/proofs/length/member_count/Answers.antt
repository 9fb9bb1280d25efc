use Rattle.message_build.proofs.Ghosts.{count_start, count_word, count_skip, count_end}
use Rattle.message_build.proofs.length.member_count.Goals as goal
use Rattle.message_build.proofs.length.member_count.Goals.{then-word-ne0, else-word-ne0}

pub loop-word-init : goal.loop-word-init
loop-word-init c = count_start _

pub loop-word-preserved : goal.loop-word-preserved
loop-word-preserved c =
    elim c.if-word-ne0.branch [
      | then-word-ne0 w ↦ rw w.count-is (count_word _ c.loop-word.invariant c.loop-word-test.true w.ones-count.ensures.0 w.ones-count.ensures.1)
      | else-word-ne0 w ↦ rw w.count-is (count_skip _ c.loop-word.invariant c.loop-word-test.true w.if-word-ne0.false)
    ]

pub returns : goal.returns
returns c = count_end _ c.loop-word.invariant c.loop-word-test.false
