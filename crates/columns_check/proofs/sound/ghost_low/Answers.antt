use Rattle.columns_check.proofs.Finding.{low_none, low_some}
use Rattle.columns_check.proofs.sound.ghost_low.Goals as goal

pub returns-then-face_count-face : goal.returns-then-face_count-face
returns-then-face_count-face c =
    let byte = c.byte in
    let face-count = c.face_count in
    let word = c.word-k in
    let if1 = c.if-face_count-face in
    low_none _ _ _ _ _ byte.ensures.0 face-count.ensures.0 word.ensures _ if1.true c.byte-then-face_count-face.ensures.0

pub returns : goal.returns
returns c =
    let byte = c.byte in
    let face-count = c.face_count in
    let word = c.word-k in
    let if1 = c.if-face_count-face in
    low_some _ _ _ _ _ byte.ensures.0 face-count.ensures.0 word.ensures _ if1.false c.orientation_ok.ensures
