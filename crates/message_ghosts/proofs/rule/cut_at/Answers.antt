use native.Mathlib.Omega.{arith}
use Rattle.message_ghosts.proofs.Ranging.{cut_made}
use Rattle.message_ghosts.proofs.rule.cut_at.Goals as goal

pub overflow_cast-result : goal.overflow_cast-result
overflow_cast-result c = omega (arith, c.clamp.ensures)

pub returns : goal.returns
returns c =
    let k = c.clamp.ensures in
    cut_made _ _ _ _ (omega (arith, k)) (omega (arith, k)) (λ x a b. ((λ d. omega (arith, k)), (λ d. omega (arith, k))))
