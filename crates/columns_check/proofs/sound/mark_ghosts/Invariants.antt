use Rattle.positions.specs.Means.{some_has, Added}
use Rattle.columns_check.specs.Means.{ghost_rows}
use Rattle.columns_check.proofs.sound.mark_ghosts.Given as goal

abbrev pub invariant-loop-j : goal.invariant-loop-j
invariant-loop-j l =
    Added l.initial.marks (some_has (ghost_rows l.columns.file.now l.columns.count l.columns.ghosts) 0 l.j) l.marks
