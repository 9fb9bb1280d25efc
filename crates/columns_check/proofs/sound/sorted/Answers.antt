use Rattle.columns_check.proofs.Held.{ghosts_few}
use Rattle.columns_check.proofs.Summing.{from_is}
use Rattle.mesh.proofs.Packing.{packed_more, packed_at, list_small}
use Rattle.mesh.proofs.Checking.{seen_all, bit_most, count_next}
use Rattle.mesh.specs.Means.{packed}
use Rattle.encoding.proofs.Below.{all_more, all_fails}
use Rattle.encoding.specs.Below.{all_below, count_below}
use native.Mathlib.Omega.{arith}
use mathlib.Core.Path.{sym, ◌∙◌}
use borrow.Author.Rules.{rules}
use Rattle.columns_check.proofs.sound.sorted.Goals as goal

pub loop-m-init : goal.loop-m-init
unfolding all_below count_below packed
loop-m-init c = search rules

pub returns-then-not-ghost_low : goal.returns-then-not-ghost_low
returns-then-not-ghost_low c = all_fails _ _ _ c.loop-m-test.true (from_is _ _ _ ∙ sym c.ghost_low.ensures ∙ c.if-not-ghost_low.true)

pub ghost_way-way-requires : goal.ghost_way-way-requires
ghost_way-way-requires c = (c.requires.0, omega arith, c.requires.3, sym c.ghost_low.ensures ∙ c.if-not-ghost_low.false)

pub pushed-list-requires : goal.pushed-list-requires
pushed-list-requires c = (list_small _ _ c.loop-m.invariant.3 (omega arith), omega arith)

pub loop-m-preserved : goal.loop-m-preserved
loop-m-preserved c =
    let before = c.loop-m.invariant in
    let way = c.ghost_way-way.ensures in (
      all_more _ _ before.0 (from_is _ _ _ ∙ sym c.ghost_low.ensures ∙ c.if-not-ghost_low.false),
      (count_next _ _ c.from-ups.ensures (way.1 ∙ sym (from_is _ _ _)) before.1.0, omega (arith, bit_most)),
      (count_next _ _ c.from-downs.ensures (way.2 ∙ sym (from_is _ _ _)) before.2.0, omega (arith, bit_most)),
      packed_more _ _ before.3 (way.0 ∙ sym (from_is _ _ _)) c.pushed-list.ensures,
    )

pub returns : goal.returns
returns c =
    let before = c.loop-m.invariant in
    let end = c.loop-m.auto.m-end in
    let seen = seen_all _ _ _ _ _ end (omega arith) c.requires.2 before.0 before.1 before.2 in
    (seen.0, seen.1, packed_at _ _ _ end (omega arith) before.3)

pub overflow_add-start : goal.overflow_add-start
overflow_add-start c = let pre = c.requires.0.numbered in omega (arith, ghosts_few _ _ _ _ _ pre, pre.laid.most)

pub overflow_add-start-in-loop-m : goal.overflow_add-start-in-loop-m
overflow_add-start-in-loop-m c = let pre = c.requires.0.numbered in omega (arith, ghosts_few _ _ _ _ _ pre, pre.laid.most)
