use Rattle.mesh.proofs.Checking.{faces_outside, faces_off, faces_seen}
use mathlib.Core.Path.{sym, ◌∙◌}
use Rattle.mesh.proofs.sound.faces_sound.Goals as goal

pub returns-in_err-links : goal.returns-in_err-links
returns-in_err-links c = rw c.from_residual.ensures (faces_outside _ _ _ _ _ c.requires.1 c.in_err-links.ensures)

pub listed_sound-requires : goal.listed_sound-requires
listed_sound-requires c =
    let pre = c.requires in
    (pre.0, pre.1, pre.2, c.in_ok-links.ensures.2)

pub returns-then-not-listed_sound : goal.returns-then-not-listed_sound
returns-then-not-listed_sound c = faces_off _ _ _ _ _ c.requires.1 (sym c.listed_sound.ensures ∙ c.if-not-listed_sound.true)

pub returns : goal.returns
returns c = (faces_seen _ _ _ _ _ c.requires.1 (sym c.listed_sound.ensures ∙ c.if-not-listed_sound.false) c.in_ok-links.ensures.0, c.in_ok-links.ensures.1)
