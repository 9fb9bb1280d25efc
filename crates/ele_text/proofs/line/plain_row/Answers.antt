use mathlib.Core.Path.{refl}
use Rattle.ele_text.proofs.Rows.{walked_end, walked_over, walked_on}
use Rattle.ele_text.proofs.line.plain_row.Goals as goal

pub returns-in_err-r : goal.returns-in_err-r
returns-in_err-r c = rw c.from_residual.ensures (walked_over _ _ _ _ c.loop-r.invariant c.until_either.ensures.0 c.in_err-r.ensures.0 refl)

pub returns-then-e-s : goal.returns-then-e-s
returns-then-e-s c = walked_end _ _ _ _ c.loop-r.invariant c.until_either.ensures.0 c.in_ok-r.ensures.0 c.if-e-s.true

pub loop-r-preserved : goal.loop-r-preserved
loop-r-preserved c = walked_on _ _ _ _ c.loop-r.invariant c.until_either.ensures.0 c.in_ok-r.ensures.0 _ refl c.in_ok-r.ensures.1 c.if-e-s.false
