use Rattle.ghost_links.proofs.Checking.{ghost_off, ghost_unsorted, ghost_unanswered, ghost_seen_lem}
use mathlib.Core.Path.{sym, ◌∙◌}
use Rattle.ghost_links.proofs.check.ghost_linked.Goals as goal

pub returns-then-not-alone : goal.returns-then-not-alone
returns-then-not-alone c = ghost_off _ _ _ _ _ _ _ _ c.alone.ensures (c.if-not-alone.true)

pub returns-in_err-links : goal.returns-in_err-links
returns-in_err-links c = rw c.from_residual.ensures (ghost_unsorted _ _ _ _ _ _ _ _ c.shape_of.ensures c.face_count-faces.ensures.0 c.in_err-links.ensures)

pub listed_linked-requires : goal.listed_linked-requires
listed_linked-requires c =
    let pre = c.requires in
    (pre.0, pre.1, c.face_count-faces.ensures.1, c.in_ok-links.ensures.2)

pub returns-then-not-listed_linked : goal.returns-then-not-listed_linked
returns-then-not-listed_linked c =
    let shape_of = c.shape_of in
    let face-count = c.face_count-faces in
    let listed-linked = c.listed_linked in
    let if3 = c.if-not-listed_linked in
    ghost_unanswered _ _ _ _ _ _ _ _ shape_of.ensures face-count.ensures.0 (sym listed-linked.ensures ∙ if3.true)

pub returns : goal.returns
returns c =
    let links = c.in_ok-links.ensures in
    ghost_seen_lem _ _ _ _ _ _ _ _ c.shape_of.ensures c.face_count-faces.ensures.0 c.alone.ensures c.if-not-alone.false (sym c.listed_linked.ensures ∙ c.if-not-listed_linked.false) (links.0, links.1)
