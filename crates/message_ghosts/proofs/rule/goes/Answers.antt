use Rattle.message_ghosts.specs.Means.{goes}
use borrow.Author.Tests.{eq-eqb, ne_eqb}
use Rattle.message_ghosts.proofs.Records.{place_fits}
use Rattle.message_ghosts.proofs.Reading.{faces_read, beside_known}
use mathlib.Core.Path.{sym, ◌∙◌}
use native.Mathlib.Omega.{arith}
use Rattle.message_ghosts.proofs.rule.goes.Goals as goal

pub returns-then-within : goal.returns-then-within
unfolding goes
returns-then-within c = rw (sym (c.requires.2.receives _) ∙ sym c.within.ensures ∙ c.if-within.true)

pub returns-then-sending : goal.returns-then-sending
unfolding goes
returns-then-sending c =
    let pre = c.requires in
    let within = c.within in
    let if1 = c.if-within in
    rw (sym (pre.2.receives _) ∙ sym within.ensures ∙ if1.false, eq-eqb _ _ c.if-sending.true)

pub shape_of-requires : goal.shape_of-requires
shape_of-requires c =
    let pre = c.requires in
    omega (arith, c.record_at-at.ensures, place_fits _ _ _ _ _ _ pre.0.known _ pre.0.within)

pub beside_before-requires : goal.beside_before-requires
beside_before-requires c =
    let pre = c.requires in
    let record_at_call = c.record_at-at in
    let shape_of = c.shape_of in
    (beside_known _ _ _ _ _ _ _ pre.0 _ (faces_read _ _ _ _ _ _ _ pre.0 _ _ _ record_at_call.ensures shape_of.ensures c.face_count-faces.ensures.0), pre.2, pre.3)

pub returns : goal.returns
unfolding goes
returns c =
    let pre = c.requires in
    let record_at_call = c.record_at-at in
    let shape_of = c.shape_of in
    let face-count = c.face_count-faces in
    let within = c.within in
    let if1 = c.if-within in
    let if2 = c.if-sending in
    let faces = faces_read _ _ _ _ _ _ _ pre.0 _ _ _ record_at_call.ensures shape_of.ensures face-count.ensures.0 in
    rw (sym (pre.2.receives _) ∙ sym within.ensures ∙ if1.false, ne_eqb _ _ if2.false, c.beside_before.ensures, faces, pre.1)
