use mathlib.Core.Path.{sym}
use native.Mathlib.Omega.{arith}
use Rattle.area.proofs.Headers.{few_words, many_words}
use Rattle.area.proofs.layout.heard_words.Goals as goal

pub returns-then-ranks-le-FEW_RANKS : goal.returns-then-ranks-le-FEW_RANKS
returns-then-ranks-le-FEW_RANKS c = (sym (few_words _ c.if-ranks-le-FEW_RANKS.true), omega arith)

pub returns : goal.returns
returns c = (sym (many_words _ c.if-ranks-le-FEW_RANKS.false), omega arith)
