use Rattle.records.specs.Record.{core_size}
use Rattle.encoding.specs.Pieces.{piece}
use Rattle.deliver_ghosts.specs.Means.{across_faces, Marked}
use Rattle.deliver_ghosts.proofs.ghosts.mark_faces.Given as goal

abbrev pub invariant-loop-face : goal.invariant-loop-face
invariant-loop-face l = Marked l.initial.marks (across_faces (piece l.message l.at core_size) l.face) l.marks
