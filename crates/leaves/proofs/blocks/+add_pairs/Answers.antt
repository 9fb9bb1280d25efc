use Rattle.leaves.proofs.BlockTotals.{adding_one, adding_low}
use native.Mathlib.Omega.{arith}
use Rattle.leaves.proofs.blocks.+add_pairs.Goals as goal

pub returns-then-to-from-lt2 : goal.returns-then-to-from-lt2
returns-then-to-from-lt2 t c = adding_one c.requires c.if-to-from-lt2.true

pub add_pairs-requires-2 : goal.add_pairs-requires-2
add_pairs-requires-2 t c =
    let a = c.requires in (omega (arith, c.decreases, a.most, c.if-to-from-lt2.false), adding_low a (omega (arith, a.most, c.if-to-from-lt2.false)) c.if-to-from.false)
