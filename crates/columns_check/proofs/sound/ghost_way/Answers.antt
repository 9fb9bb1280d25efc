use mathlib.Core.Path.{◌∙◌}
use Rattle.columns_check.proofs.Held.{ghost_marked}
use Rattle.columns_check.proofs.Finding.{none_leads, low_under, listed_read, ghost_up_read, ghost_down_read}
use Rattle.columns_check.proofs.sound.ghost_way.Goals as goal

pub returns-then-face_count-face : goal.returns-then-face_count-face
returns-then-face_count-face c = none_leads _ _ _ _ _ c.byte.ensures.0 c.face_count.ensures.0 c.if-face_count-face.true _

pub in_set-held-requires : goal.in_set-held-requires
in_set-held-requires c =
    let byte = c.byte in
    let face-count = c.face_count in
    let word = c.word-k in
    let if1 = c.if-face_count-face in
    let pre = c.requires in
    low_under _ _ _ _ _ byte.ensures.0 face-count.ensures.0 word.ensures _ if1.false pre.3 pre.0.room

pub returns : goal.returns
returns c =
    let pre = c.requires in
    let byte = c.byte in
    let face-count = c.face_count in
    let word = c.word-k in
    let if1 = c.if-face_count-face in
    let word2 = c.word-own in
    let within = c.within-inside in
    let held = c.in_set-held.ensures ∙ ghost_marked _ _ _ pre.0.indexed _ in (
      listed_read _ _ _ _ _ byte.ensures.0 face-count.ensures.0 word.ensures if1.false word2.ensures held,
      ghost_up_read _ _ _ _ _ byte.ensures.0 face-count.ensures.0 word.ensures if1.false word2.ensures held _ within.ensures,
      ghost_down_read _ _ _ _ _ byte.ensures.0 face-count.ensures.0 word.ensures if1.false word2.ensures held,
    )
