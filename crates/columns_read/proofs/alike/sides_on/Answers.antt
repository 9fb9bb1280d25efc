use Rattle.std.proofs.Common.{le_refl, arith}
use Rattle.columns_read.proofs.Runs.{sides_none, sides_up, sides_run}
use Rattle.columns_read.proofs.alike.sides_on.Goals as goal

pub returns-then-count-i-le64 : goal.returns-then-count-i-le64
returns-then-count-i-le64 c = sides_none _ _ _ _ _ _ _ _ c.requires.1

pub returns-then-own-eq0 : goal.returns-then-own-eq0
returns-then-own-eq0 c = sides_none _ _ _ _ _ _ _ _ c.requires.1

pub returns-then-count-j : goal.returns-then-count-j
returns-then-count-j c = sides_none _ _ _ _ _ _ _ _ c.requires.1

pub returns-then-face_count-face : goal.returns-then-face_count-face
returns-then-face_count-face c = sides_none _ _ _ _ _ _ _ _ c.requires.1

pub returns-then-i-j : goal.returns-then-i-j
returns-then-i-j c =
    let pre = c.requires in
    let sides-like = c.sides_like-own in
    let word = c.word-j in
    let byte = c.byte in
    let face-count = c.face_count in
    let if4 = c.if-face_count-face in
    let if1 = c.if-count-i-le64 in
    let if3 = c.if-count-j in
    sides_up _ _ _ _ _ _ _ _ pre.2 sides-like.ensures word.ensures byte.ensures.0 face-count.ensures.0 if4.false (omega (arith, if1.false)) (omega (arith, if1.false, if3.false)) (le_refl _) c.if-i-j.true

pub returns : goal.returns
returns c =
    let pre = c.requires in
    let sides-like = c.sides_like-own in
    let word = c.word-j in
    let byte = c.byte in
    let face-count = c.face_count in
    let if4 = c.if-face_count-face in
    let if1 = c.if-count-i-le64 in
    let if3 = c.if-count-j in
    let byte2 = c.byte-2 in
    let parted = c.parted-across in
    let sides-like2 = c.sides_like-others in
    let if5 = c.if-i-j in
    sides_run _ _ _ _ _ _ _ _ pre.2 sides-like.ensures word.ensures byte.ensures.0 face-count.ensures.0 if4.false (omega (arith, if1.false))
    (omega (arith, if1.false, if3.false)) (omega arith) byte2.ensures.0 parted.ensures.0 parted.ensures.1.1 sides-like2.ensures (omega arith) if5.false
