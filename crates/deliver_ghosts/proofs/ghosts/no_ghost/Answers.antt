use Rattle.encoding.proofs.Below.{all_more, all_fails, all_to}
use Rattle.encoding.specs.Below.{all_below}
use Rattle.deliver_ghosts.proofs.Rooms.{layout_header, ghost_room}
use Rattle.deliver_ghosts.proofs.Marking.{ghost_number}
use native.Mathlib.Omega.{arith}
use mathlib.Core.Path.{refl, sym, ap, ◌∙◌}
use mathlib.Core.Bool.{not}
use Prim.Native.Nat.{◌<◌}
use Rattle.message.specs.Layout.{message_ghosts}
use Rattle.deliver_ghosts.proofs.ghosts.no_ghost.Goals as goal

pub tree_count-count-requires : goal.tree_count-count-requires
tree_count-count-requires g c = layout_header _ c.requires.laid

pub ghost_count-j-end-requires : goal.ghost_count-j-end-requires
ghost_count-j-end-requires g c = layout_header _ c.requires.laid

pub loop-j-init : goal.loop-j-init
unfolding all_below
loop-j-init g c = λ test h. refl

pub number_of-number-requires : goal.number_of-number-requires
number_of-number-requires g c = ghost_room _ c.requires.laid c.tree_count-count.ensures c.ghost_count-j-end.ensures c.loop-j-test.true c.ghost_at.ensures

pub held-requires : goal.held-requires
held-requires g c =
    let e = ghost_number _ _ c.tree_count-count.ensures c.ghost_at.ensures c.number_of-number.ensures in
    rw e (c.requires.callable c.loop-j.j (omega (arith, c.loop-j-test.true, c.ghost_count-j-end.ensures)))

pub returns-then-held : goal.returns-then-held
returns-then-held g c =
    let e = ghost_number _ _ c.tree_count-count.ensures c.ghost_at.ensures c.number_of-number.ensures in
    let l : c.loop-j.j < message_ghosts c.args.message.now = omega (arith, c.loop-j-test.true, c.ghost_count-j-end.ensures) in
    record { none = λ test h. sym (all_fails _ _ _ l (ap not (sym (h c.loop-j.j c.held.result l (rw (← e) c.held.ensures)) ∙ c.if-held.true))) }

pub loop-j-preserved : goal.loop-j-preserved
loop-j-preserved g c = λ test h.
    let e = ghost_number _ _ c.tree_count-count.ensures c.ghost_at.ensures c.number_of-number.ensures in
    all_more _ _ (c.loop-j.invariant test h) (ap not (sym (h c.loop-j.j c.held.result (omega (arith, c.loop-j-test.true, c.ghost_count-j-end.ensures)) (rw (← e) c.held.ensures)) ∙ c.if-held.false))

pub returns : goal.returns
returns g c =
    record { none = λ test h. sym (all_to _ _ _ (omega (arith, c.loop-j.auto.j-end, c.ghost_count-j-end.ensures)) (omega (arith, c.ghost_count-j-end.ensures)) (c.loop-j.invariant test h)) }
