use Rattle.columns_read.proofs.Reading.{face_none, face_other, face_elsewhere, face_boundary}
use Rattle.columns_read.proofs.read.face_ok.Goals as goal

pub returns-then-face_count-face : goal.returns-then-face_count-face
returns-then-face_count-face c =
    let byte = c.byte-shape in
    let word = c.word-neighbour in
    let byte2 = c.byte-code in
    let face-count = c.face_count in
    face_none _ _ _ byte.ensures.0 word.ensures byte2.ensures.0 face-count.ensures.0 c.if-face_count-face.true

pub returns-then-neighbour-own : goal.returns-then-neighbour-own
returns-then-neighbour-own c =
    let byte = c.byte-shape in
    let word = c.word-neighbour in
    let byte2 = c.byte-code in
    let face-count = c.face_count in
    let if1 = c.if-face_count-face in
    face_other _ _ _ byte.ensures.0 word.ensures byte2.ensures.0 face-count.ensures.0 if1.false c.if-neighbour-own.true

pub returns-then-code-faces : goal.returns-then-code-faces
returns-then-code-faces c =
    let byte = c.byte-shape in
    let word = c.word-neighbour in
    let byte2 = c.byte-code in
    let face-count = c.face_count in
    let if1 = c.if-face_count-face in
    let if2 = c.if-neighbour-own in
    let faces_in_call = c.faces_in-faces in
    let dimension_of_call = c.dimension_of in
    face_elsewhere _ _ _ byte.ensures.0 word.ensures byte2.ensures.0 face-count.ensures.0 if1.false if2.false faces_in_call.ensures.0 dimension_of_call.ensures c.if-code-faces.true

pub returns : goal.returns
returns c =
    let byte = c.byte-shape in
    let word = c.word-neighbour in
    let byte2 = c.byte-code in
    let face-count = c.face_count in
    let if1 = c.if-face_count-face in
    let if2 = c.if-neighbour-own in
    let faces_in_call = c.faces_in-faces in
    let dimension_of_call = c.dimension_of in
    face_boundary _ _ _ byte.ensures.0 word.ensures byte2.ensures.0 face-count.ensures.0 if1.false if2.false faces_in_call.ensures.0 dimension_of_call.ensures c.if-code-faces.false
