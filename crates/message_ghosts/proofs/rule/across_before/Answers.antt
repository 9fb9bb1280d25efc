use native.Mathlib.Omega.{arith}
use Rattle.message_ghosts.proofs.Localising.{tree_before}
use Rattle.message_ghosts.proofs.rule.across_before.Goals as goal

pub neighbour_of-next-requires : goal.neighbour_of-next-requires
neighbour_of-next-requires c = (omega (arith, c.record_at.ensures, c.requires.0.here), c.requires.0.face)

pub returns-then-next-count : goal.returns-then-next-count
returns-then-next-count c =
    rw (c.within.ensures, c.within-then-next-count.ensures)
    (tree_before _ _ _ _ _ _ _ _ _ _ c.requires.2 c.record_at.ensures c.neighbour_of-next.ensures c.if-local-count.true c.if-next-count.true)
