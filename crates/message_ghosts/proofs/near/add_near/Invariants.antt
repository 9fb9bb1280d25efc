use Prim.Native.Nat.{◌-◌}
use Rattle.positions.specs.Means.{Added}
use Rattle.part_cut.specs.Means.{out_trees}
use Rattle.message_ghosts.specs.Means.{record_in}
use Rattle.message_ghosts.proofs.near.add_near.Given as goal

abbrev pub invariant-loop-i : goal.invariant-loop-i
invariant-loop-i l = Added l.initial.near (out_trees (record_in l.sending.part.now l.count) l.start l.end (l.i - l.start)) l.near
