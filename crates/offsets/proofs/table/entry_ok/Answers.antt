use Rattle.offsets.specs.Means.{entry_ok}
use borrow.Author.Tests.{le-leb, lt-leb}
use Rattle.offsets.proofs.table.entry_ok.Goals as goal

pub returns-then-trees-magnitude : goal.returns-then-trees-magnitude
unfolding entry_ok
returns-then-trees-magnitude c = simp (← c.magnitude.ensures, lt-leb _ _ c.if-trees-magnitude.true)

pub returns-then-negative : goal.returns-then-negative
unfolding entry_ok
returns-then-negative c =
    let magnitude = c.magnitude in
    let negative = c.negative in
    let first_of = c.first_of in
    let if1 = c.if-trees-magnitude in
    let if2 = c.if-negative in
    simp (← magnitude.ensures, ← negative.ensures, ← first_of.ensures, ← c.magnitude-then-negative.ensures, le-leb _ _ if1.false, if2.true)

pub returns : goal.returns
unfolding entry_ok
returns c =
    let magnitude = c.magnitude in
    let negative = c.negative in
    let first-of2 = c.first_of-2 in
    let if1 = c.if-trees-magnitude in
    let if2 = c.if-negative in
    simp (← magnitude.ensures, ← negative.ensures, ← first-of2.ensures, ← c.magnitude-2.ensures, le-leb _ _ if1.false, if2.false)
