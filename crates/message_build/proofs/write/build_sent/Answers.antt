use native.Mathlib.Omega.{arith}
use Rattle.message_build.proofs.Answers.{words_known}
use Rattle.message_build.proofs.write.build_sent.Goals as goal

pub mark_words-words-requires : goal.mark_words-words-requires
mark_words-words-requires c = words_known _ _ _ _ _ _ _ c.requires.0

pub build_with-requires : goal.build_with-requires
build_with-requires c = (c.requires, c.mark_words-words.ensures.0, c.if-words-le256.true, omega arith)

pub returns-then-words-le256 : goal.returns-then-words-le256
returns-then-words-le256 c = c.build_with.ensures

pub build_with-requires-then-words-le1024 : goal.build_with-requires-then-words-le1024
build_with-requires-then-words-le1024 c = (c.requires, c.mark_words-words.ensures.0, c.if-words-le1024.true, omega arith)

pub returns-then-words-le1024 : goal.returns-then-words-le1024
returns-then-words-le1024 c = c.build_with-then-words-le1024.ensures

pub build_with-requires-2 : goal.build_with-requires-2
build_with-requires-2 c = (c.requires, c.mark_words-words.ensures.0, c.mark_words-words.ensures.1, omega arith)

pub returns : goal.returns
returns c = c.build_with-2.ensures
