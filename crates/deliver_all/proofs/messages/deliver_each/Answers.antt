use Rattle.deliver_all.proofs.Parting.{next_most, next_some, part_is}
use Rattle.deliver_all.proofs.Delivering.{turn_start, answer_room, turn_next, turn_done}
use native.Mathlib.Omega.{arith}
use mathlib.Core.Path.{refl, ◌∙◌, ap}
use Prim.Native.Nat.{ℕ}
use Rattle.deliver_all.proofs.messages.deliver_each.Goals as goal

pub loop-at-init : goal.loop-at-init
loop-at-init c = (refl, turn_start _ _ _ (λ i. (c.slice_known-1.given i).fits) c.requires)

pub overflow_add-end : goal.overflow_add-end
overflow_add-end c =
    let args = c.args in
    let loop-test = c.loop-at-test in
    omega (arith, next_most args.messages.now loop-test.true c.front_length.ensures.0)

pub slice_bounds-deliver_sound-end : goal.slice_bounds-deliver_sound-end
slice_bounds-deliver_sound-end c =
    let args = c.args in
    let loop-test = c.loop-at-test in
    let Front-length = c.front_length in
    omega (arith, next_most args.messages.now loop-test.true Front-length.ensures.0)

pub deliver_sound-requires : goal.deliver_sound-requires
deliver_sound-requires c = c.loop-at.invariant.1.sound

pub bounds-answers-i : goal.bounds-answers-i
bounds-answers-i c =
    let loop = c.loop-at in
    let loop-test = c.loop-at-test in
    let Front-length = c.front_length in
    answer_room _ _ _ loop.invariant.1 loop-test.true Front-length.ensures.0

pub overflow_add-i : goal.overflow_add-i
overflow_add-i c =
    let loop = c.loop-at in
    let loop-test = c.loop-at-test in
    let Front-length = c.front_length in
    omega (arith, answer_room _ _ _ loop.invariant.1 loop-test.true Front-length.ensures.0)

pub loop-at-smaller : goal.loop-at-smaller
loop-at-smaller c =
    let args = c.args in
    let loop-test = c.loop-at-test in
    let Front-length = c.front_length in
    omega (arith, next_most args.messages.now loop-test.true Front-length.ensures.0, next_some args.messages.now loop-test.true Front-length.ensures.0)

pub loop-at-preserved : goal.loop-at-preserved
loop-at-preserved c =
    let area = c.area-1 in
    let loop = c.loop-at in
    let args = c.args in
    let loop-test = c.loop-at-test in
    let Front-length = c.front_length in
    let told = ap (λ (r : ℕ). (r, c.deliver_sound.new.area)) c.number_of.ensures ∙ c.deliver_sound.ensures in
    (area.given ∙ loop.invariant.0, turn_next _ args.messages.now _ loop.invariant.1 loop-test.true Front-length.ensures.0 (λ i. (c.slice_known-in-loop-at-1.given i).fits) (part_is args.messages.now loop.at Front-length.result) told refl)

pub shape_of-area : goal.shape_of-area
shape_of-area c = c.loop-at.invariant.0

pub shape_of-answers : goal.shape_of-answers
shape_of-answers c = c.loop-at.invariant.1.same_length

pub returns : goal.returns
returns c = turn_done _ _ _ c.loop-at.invariant.1 (omega arith)
