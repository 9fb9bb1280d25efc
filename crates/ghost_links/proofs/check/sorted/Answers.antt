use Rattle.ghost_links.proofs.Checking.{marked_is, low_read, low_fails, low_under, met_more, up_ghost, down_ghost, listed_ghost, seen_met, seen_unmet}
use Rattle.mesh.proofs.Packing.{packed_more, packed_at, list_small}
use Rattle.mesh.proofs.Checking.{bit_most, count_next}
use Rattle.mesh.specs.Means.{packed}
use Rattle.encoding.proofs.Below.{all_more}
use Rattle.encoding.specs.Below.{all_below, any_below, count_below}
use native.Mathlib.Omega.{arith}
use mathlib.Core.Path.{refl, sym, ◌∙◌}
use Rattle.ghost_links.proofs.check.sorted.Goals as goal

pub overflow_add-end : goal.overflow_add-end
overflow_add-end c = omega (arith, c.requires.0.low)

pub loop-face-init : goal.loop-face-init
unfolding all_below any_below count_below packed
loop-face-init c = (refl, refl, (refl, omega arith), (refl, omega arith), refl)

pub returns-then-not-k-x : goal.returns-then-not-k-x
returns-then-not-k-x c =
    let loop-test = c.loop-face-test in
    let neighbour_of_call = c.neighbour_of-k in
    let orientation-ok = c.orientation_ok in
    low_fails _ _ _ _ loop-test.true (sym (low_read _ _ _ _ neighbour_of_call.ensures _ orientation-ok.ensures) ∙ c.if-not-k-x.true)

pub within-inside-requires : goal.within-inside-requires
within-inside-requires c = omega arith

pub in_set-held-requires : goal.in_set-held-requires
in_set-held-requires c = low_under _ _ _ (c.if-not-k-x.false) c.requires.0.room

pub pushed-list-requires : goal.pushed-list-requires
pushed-list-requires c = (list_small _ _ c.loop-face.invariant.4 (omega arith), omega arith)

pub loop-face-preserved : goal.loop-face-preserved
loop-face-preserved c =
    let in-set = c.in_set-held in
    let pre = c.requires in
    let loop = c.loop-face in
    let neighbour_of_call = c.neighbour_of-k in
    let orientation-ok = c.orientation_ok in
    let if1 = c.if-not-k-x in
    let within = c.within-inside in
    let number_of_call = c.number_of-own in
    let pushed = c.pushed-list in
    let held = in-set.ensures ∙ marked_is _ _ pre.0.indexed _ in (
      all_more _ _ loop.invariant.0 (sym (low_read _ _ _ _ neighbour_of_call.ensures _ orientation-ok.ensures) ∙ if1.false),
      met_more _ _ _ _ neighbour_of_call.ensures _ _ loop.invariant.1 within.ensures,
      (count_next _ _ c.from-ups.ensures (up_ghost _ _ _ _ _ neighbour_of_call.ensures number_of_call.ensures held _ _ within.ensures) loop.invariant.2.0, omega (arith, bit_most)),
      (count_next _ _ c.from-downs.ensures (down_ghost _ _ _ _ _ neighbour_of_call.ensures number_of_call.ensures held) loop.invariant.3.0, omega (arith, bit_most)),
      packed_more _ _ loop.invariant.4 (listed_ghost _ _ _ _ _ neighbour_of_call.ensures number_of_call.ensures held) pushed.ensures,
    )

pub returns-then-not-met : goal.returns-then-not-met
returns-then-not-met c = seen_unmet _ _ _ _ c.loop-face.auto.face-end (omega arith) c.loop-face.invariant.1 c.if-not-met.true

pub returns : goal.returns
returns c =
    let inv = c.loop-face.invariant in
    let end = c.loop-face.auto.face-end in
    let seen = seen_met _ _ _ _ _ _ end (omega arith) c.requires.2 inv.0 inv.1 c.if-not-met.false inv.2 inv.3 in
    (seen.0, seen.1, packed_at _ _ _ end (omega arith) inv.4)
