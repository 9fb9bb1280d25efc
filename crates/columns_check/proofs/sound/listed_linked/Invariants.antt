use Rattle.columns_check.specs.MeansFiles.{listed_of, linked_of}
use Rattle.columns_check.specs.Means.{from}
use Rattle.mesh.proofs.Packing.{Left}
use Rattle.columns_check.proofs.sound.listed_linked.Given as goal

abbrev pub invariant-loop-left : goal.invariant-loop-left
invariant-loop-left l =
    Left (from (listed_of l.indexed.columns l.face) l.start) (from (linked_of l.indexed.columns l.face) l.start) l.many l.left

abbrev pub decreases-loop-left : goal.decreases-loop-left
decreases-loop-left l = l.left
