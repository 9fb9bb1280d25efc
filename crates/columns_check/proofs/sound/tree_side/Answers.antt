use Rattle.columns_check.proofs.Finding.{side_unformed, side_none, side_up, side_past, side_held}
use borrow.Author.Rules.{rules}
use Rattle.columns_check.proofs.sound.tree_side.Goals as goal

pub returns-then-not-face_ok : goal.returns-then-not-face_ok
returns-then-not-face_ok c = side_unformed _ _ _ _ _ _ _ _ c.face_ok.ensures (c.if-not-face_ok.true)

pub returns-then-face_count-face : goal.returns-then-face_count-face
returns-then-face_count-face c =
    let face-ok = c.face_ok in
    let if1 = c.if-not-face_ok in
    let byte = c.byte in
    let face-count = c.face_count in
    side_none _ _ _ _ _ _ _ _ face-ok.ensures (if1.false) byte.ensures.0 face-count.ensures.0 c.if-face_count-face.true

pub returns-then-i-j : goal.returns-then-i-j
returns-then-i-j c =
    let face-ok = c.face_ok in
    let if1 = c.if-not-face_ok in
    let byte = c.byte in
    let face-count = c.face_count in
    let if2 = c.if-face_count-face in
    let word = c.word-j in
    side_up _ _ _ _ _ _ _ _ face-ok.ensures (if1.false) byte.ensures.0 face-count.ensures.0 if2.false word.ensures c.if-i-j.true

pub returns-in_default : goal.returns-in_default
returns-in_default c = side_past _ _ _ _ _ _ _ _ c.face_ok.ensures c.if-not-face_ok.false c.byte.ensures.0 c.face_count.ensures.0 c.if-face_count-face.false c.word-j.ensures c.if-i-j.false c.in_default.ensures

pub link_ok-requires : goal.link_ok-requires
link_ok-requires c = (search rules, search rules, c.in-Some.ensures.fits)

pub returns : goal.returns
returns c = side_held _ _ _ _ _ _ _ _ c.face_ok.ensures c.if-not-face_ok.false c.byte.ensures.0 c.face_count.ensures.0 c.if-face_count-face.false c.word-j.ensures c.if-i-j.false c.in-Some.ensures c.link_ok.ensures
