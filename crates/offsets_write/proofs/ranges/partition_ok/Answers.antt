use Rattle.offsets_write.specs.Calls.{partition_ok}
use lib.ListN.{length}
use mathlib.Core.Bool.{and-false}
use borrow.Author.Tests.{ne_eqb, eq-eqb}
use Rattle.offsets_write.proofs.ranges.partition_ok.Goals.{then-first-ranks-via-then-first-ranks, then-first-ranks-via-else-first-ranks+then-count-ranks}
use Rattle.offsets_write.proofs.ranges.partition_ok.Goals as goal

pub returns-then-first-ranks : goal.returns-then-first-ranks
unfolding partition_ok
returns-then-first-ranks c =
    let args = c.args in
    elim c.then-first-ranks.branch [
      | then-first-ranks-via-then-first-ranks w ↦ simp (ne_eqb (length args.first.now) args.ranks w.if-first-ranks.true)
      | then-first-ranks-via-else-first-ranks+then-count-ranks w ↦ simp (ne_eqb (length args.count.now) args.ranks w.if-count-ranks.true, and-false)
    ]

pub returns : goal.returns
unfolding partition_ok
returns c =
    let args = c.args in
    let e = c.if-first-ranks.false in
    simp (eq-eqb (length args.first.now) args.ranks e, eq-eqb (length args.count.now) args.ranks c.if-count-ranks.false) (rw e at c.ranges_fit.ensures)
