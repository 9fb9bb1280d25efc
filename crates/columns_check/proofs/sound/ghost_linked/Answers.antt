use native.Mathlib.Omega.{arith}
use Rattle.columns_check.proofs.Held.{ghost_held}
use Rattle.columns_check.proofs.Finding.{answered_not, answered_read, listed_there}
use borrow.Author.Rules.{rules}
use Rattle.columns_check.proofs.sound.ghost_linked.Goals as goal

pub returns-then-not-face_ok : goal.returns-then-not-face_ok
returns-then-not-face_ok c =
    let pre = c.requires in
    let word = c.word-number in
    let face-ok = c.face_ok in
    answered_not _ _ _ _ _ pre.3 _ word.ensures face-ok.ensures (c.if-not-face_ok.true)

pub link_ok-requires : goal.link_ok-requires
link_ok-requires c =
    let pre = c.requires in
    let word2 = c.word-k in
    (search rules, search rules, omega (arith, pre.0.numbered.laid.long, listed_there _ _ _ _ _ pre.3 word2.ensures (ghost_held _ _ _ pre.0.indexed _ c.find-position.ensures.0)))

pub returns : goal.returns
returns c =
    let pre = c.requires in
    let word = c.word-number in
    let face-ok = c.face_ok in
    let if1 = c.if-not-face_ok in
    let word2 = c.word-k in
    let find = c.find-position in
    answered_read _ _ _ _ _ pre.3 _ word.ensures face-ok.ensures (if1.false) word2.ensures (ghost_held _ _ _ pre.0.indexed _ find.ensures.0) c.link_ok.ensures
