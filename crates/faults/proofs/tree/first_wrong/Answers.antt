use mathlib.Core.Path.{refl, sym, ap}
use native.Mathlib.Omega.{arith}
use Rattle.faults.specs.Mesh.{tree_wrong}
use Rattle.faults.proofs.Positive.{kind_positive}
use Rattle.faults.proofs.Searches.{tree_passes, trees_pass}
use Rattle.faults.proofs.Firsts.{quiet_more, quiet_to, first_read, first_none}
use Rattle.faults.specs.Answer.{Wrong}
use Rattle.faults.proofs.tree.first_wrong.Goals.{then-not-tree_right+in_default, else-not-tree_right}
use Rattle.faults.proofs.tree.first_wrong.Goals as goal

pub loop-k-init : goal.loop-k-init
loop-k-init c = trees_pass _ _ _ _ c.plain_run-k.ensures.1

pub returns-in-Some : goal.returns-in-Some
returns-in-Some c = first_read 7 _ (tree_wrong _ _ _) _ c.loop-k-test.true c.loop-k.invariant c.in-Some.ensures (kind_positive _) refl

pub loop-k-preserved : goal.loop-k-preserved
loop-k-preserved c =
    elim c.if-not-tree_right.branch [
      | then-not-tree_right+in_default w ↦ quiet_more _ _ c.loop-k.invariant (ap (λ (x : Wrong). x.kind) w.in_default.ensures) refl
      | else-not-tree_right w ↦ quiet_more _ _ c.loop-k.invariant refl (tree_passes _ _ _ _ c.tree_right.ensures w.if-not-tree_right.false)
    ]

pub returns : goal.returns
returns c = sym (first_none 7 _ (tree_wrong _ _ _) (quiet_to _ _ _ (c.loop-k.auto.k-end c.plain_run-k.ensures.0) (omega arith) c.loop-k.invariant))
