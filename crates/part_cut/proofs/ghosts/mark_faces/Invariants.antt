use Rattle.part_cut.specs.Means.{out_faces}
use Rattle.positions.specs.Means.{Added}
use Rattle.records.specs.Record.{core_size}
use Rattle.encoding.specs.Pieces.{piece}
use Rattle.part_cut.proofs.ghosts.mark_faces.Given as goal

abbrev pub invariant-loop-face : goal.invariant-loop-face
invariant-loop-face l = Added l.initial.marks (out_faces l.first l.end (piece l.bs l.at core_size) l.face) l.marks
