use mathlib.Core.Path.{refl}
use Rattle.faults.proofs.Positive.{kind_positive}
use Rattle.part_fault.proofs.Finding.{ghost_found, ghost_searched, ghost_beside_lem, ghost_alone}
use Rattle.part_fault.proofs.search.wrong_ghost.Goals as goal

pub returns-in-Err : goal.returns-in-Err
returns-in-Err c = ghost_found _ _ c.requires.0 _ c.ghost_at-at.ensures c.requires.1 c.in-Err.ensures (kind_positive _)

pub returns-in-Some : goal.returns-in-Some
returns-in-Some c = ghost_searched _ _ c.requires.0 _ c.ghost_at-at.ensures c.requires.1 c.in_default.ensures refl c.in-Some.ensures (kind_positive _)

pub returns-then-beside : goal.returns-then-beside
returns-then-beside c =
    ghost_beside_lem _ _ c.requires.0 _ c.ghost_at-at.ensures c.requires.1 c.in_default.ensures refl c.in_default-wrong_face.ensures refl c.shape_of.ensures c.face_count-count.ensures.0 c.beside.ensures c.if-beside.true

pub returns : goal.returns
returns c =
    ghost_alone _ _ c.requires.0 _ c.ghost_at-at.ensures c.requires.1 c.in_default.ensures refl c.in_default-wrong_face.ensures refl c.shape_of.ensures c.face_count-count.ensures.0 c.beside.ensures c.if-beside.false
