use mathlib.Core.Path.{refl}
use native.Mathlib.Nat.{le_refl}
use Rattle.part_fault.proofs.Finding.{part_tree_lem, part_tree_some, part_ghost, part_ghost_some, part_out, part_none}
use Rattle.part_fault.proofs.search.first_wrong.Goals as goal

pub returns-in_err-wrong : goal.returns-in_err-wrong
returns-in_err-wrong c = absurd (part_tree_some _ _ c.requires c.in-Some.ensures.1 c.in-Some.ensures.0 c.in_err-wrong.ensures)

pub returns-in-Some : goal.returns-in-Some
returns-in-Some c = part_tree_lem _ _ c.requires c.in-Some.ensures.1 c.in-Some.ensures.0 c.in_ok-wrong.ensures refl

pub returns-in_err-wrong-2 : goal.returns-in_err-wrong-2
returns-in_err-wrong-2 c = absurd (part_ghost_some _ _ c.requires c.in_default.ensures (le_refl _) c.in-Some-first_ghost.ensures.1 c.in-Some-first_ghost.ensures.0 c.in_err-wrong-2.ensures)

pub returns-in-Some-first_ghost : goal.returns-in-Some-first_ghost
returns-in-Some-first_ghost c = part_ghost _ _ c.requires c.in_default.ensures (le_refl _) c.in-Some-first_ghost.ensures.1 c.in-Some-first_ghost.ensures.0 c.in_ok-wrong-2.ensures refl

pub returns-then-e : goal.returns-then-e
returns-then-e c = part_out _ _ c.requires c.in_default.ensures (le_refl _) c.in_default-first_ghost.ensures (le_refl _) c.if-e.true refl

pub returns : goal.returns
returns c = part_none _ _ c.requires c.in_default.ensures (le_refl _) c.in_default-first_ghost.ensures (le_refl _) c.if-e.false refl
