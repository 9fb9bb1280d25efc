use Rattle.faults.specs.Record.{link_kind}
use Rattle.encoding.specs.Refusal.{first_failed}
use Rattle.faults.proofs.record.check_link.Goals as goal

pub returns-then-not-orientation_ok : goal.returns-then-not-orientation_ok
unfolding link_kind first_failed
returns-then-not-orientation_ok c = simp (← c.orientation_ok.ensures, c.if-not-orientation_ok.true)

pub returns-then-not-same_corners : goal.returns-then-not-same_corners
unfolding link_kind first_failed
returns-then-not-same_corners c =
    let orientation-ok = c.orientation_ok in
    let if1 = c.if-not-orientation_ok in
    let same-corners = c.same_corners in
    simp (← orientation-ok.ensures, if1.false, ← same-corners.ensures, c.if-not-same_corners.true)

pub returns-then-not-answered : goal.returns-then-not-answered
unfolding link_kind first_failed
returns-then-not-answered c =
    let orientation-ok = c.orientation_ok in
    let if1 = c.if-not-orientation_ok in
    let same-corners = c.same_corners in
    let if2 = c.if-not-same_corners in
    let answered = c.answered in
    simp (← orientation-ok.ensures, if1.false, ← same-corners.ensures, if2.false, ← answered.ensures, c.if-not-answered.true)

pub returns : goal.returns
unfolding link_kind first_failed
returns c =
    let orientation-ok = c.orientation_ok in
    let if1 = c.if-not-orientation_ok in
    let same-corners = c.same_corners in
    let if2 = c.if-not-same_corners in
    let answered = c.answered in
    simp (← orientation-ok.ensures, if1.false, ← same-corners.ensures, if2.false, ← answered.ensures, c.if-not-answered.false)
