use lib.ListN.{length, get_or}
use Rattle.refinement.specs.Means.Walks.{bit_at}
use borrow.Author.Tests.{le-ltb, lt-ltb, eq-eqb, ne_eqb}
use Rattle.refinement.proofs.walk.meet.Goals as goal

pub returns-then-s-at : goal.returns-then-s-at
unfolding bit_at
returns-then-s-at c = simp (le-ltb c.args.at (length c.args.s.now) c.if-s-at.true)

pub returns-then-b-eq0 : goal.returns-then-b-eq0
unfolding bit_at
returns-then-b-eq0 c = simp (lt-ltb c.args.at (length c.args.s.now) c.if-s-at.false, eq-eqb (get_or c.args.s.now c.args.at 0) 0 c.if-b-eq0.true)

pub returns-then-b-depth : goal.returns-then-b-depth
unfolding bit_at
returns-then-b-depth c =
    simp (lt-ltb c.args.at (length c.args.s.now) c.if-s-at.false, ne_eqb (get_or c.args.s.now c.args.at 0) 0 c.if-b-eq0.false, c.if-b-depth.true)

pub returns : goal.returns
unfolding bit_at
returns c =
    simp (lt-ltb c.args.at (length c.args.s.now) c.if-s-at.false, ne_eqb (get_or c.args.s.now c.args.at 0) 0 c.if-b-eq0.false, c.if-b-depth.false)
