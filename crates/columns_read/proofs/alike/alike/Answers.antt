use Rattle.std.proofs.Common.{sym, ◌∙◌, arith}
use Rattle.columns_read.proofs.Runs.{run_alike, run_other}
use Rattle.columns_read.proofs.alike.alike.Goals as goal
use Rattle.columns_read.proofs.alike.alike.Goals.{then-like, else-like}

pub loop-i-preserved : goal.loop-i-preserved
loop-i-preserved g c = λ test h.
    let so_far = c.loop-i.invariant test h in
    elim c.if-like.branch [
      | then-like w ↦ run_alike so_far (sym (h _ _ c.like.ensures) ∙ w.if-like.true) (omega (arith, w.most-is))
      | else-like w ↦ run_other so_far (omega (arith, w.most-is)) (omega (arith, w.most-is))
    ]
