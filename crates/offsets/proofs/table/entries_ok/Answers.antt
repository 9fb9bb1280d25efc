use Rattle.offsets.proofs.OnePass.{entry_turn}
use Rattle.encoding.proofs.Below.{all_more, all_fails, all_to}
use Rattle.encoding.specs.Below.{all_below}
use native.Mathlib.Omega.{arith}
use mathlib.Core.Path.{sym, ◌∙◌}
use borrow.Author.Rules.{rules}
use Rattle.offsets.proofs.table.entries_ok.Goals as goal

pub loop-p-init : goal.loop-p-init
unfolding all_below
loop-p-init c = search rules

pub returns-then-not-entry_ok : goal.returns-then-not-entry_ok
returns-then-not-entry_ok c =
    let loop-test = c.loop-p-test in
    let entry = c.entry in
    let entry2 = c.entry-in-loop-p in
    let entry-ok = c.entry_ok in
    sym (all_fails _ _ _ loop-test.true (sym (entry_turn _ _ _ _ _ _ entry.ensures entry2.ensures entry-ok.ensures) ∙ c.if-not-entry_ok.true))

pub loop-p-preserved : goal.loop-p-preserved
loop-p-preserved c =
    let loop = c.loop-p in
    let entry = c.entry in
    let entry2 = c.entry-in-loop-p in
    let entry-ok = c.entry_ok in
    all_more _ _ loop.invariant (sym (entry_turn _ _ _ _ _ _ entry.ensures entry2.ensures entry-ok.ensures) ∙ c.if-not-entry_ok.false)

pub returns : goal.returns
returns c = sym (all_to _ _ _ c.loop-p.auto.p-end (omega arith) c.loop-p.invariant)
