use Rattle.plan_text.proofs.Answers.{output_kept, output_refused, other_refusal}
use mathlib.Core.Path.{refl}
use Rattle.plan_text.proofs.plan_output.Goals as goal

pub returns-in-Ok : goal.returns-in-Ok
returns-in-Ok c = output_kept _ _ c.in-Ok.ensures refl

pub returns-in-Buffer : goal.returns-in-Buffer
returns-in-Buffer c = rw c.in-Buffer.is (output_kept _ _ (rw c.in-Buffer.is at c.in-Err.ensures) refl)

pub returns-in_default : goal.returns-in_default
returns-in_default c = output_refused _ _ c.in-Err.ensures (other_refusal _ c.in_default.not-Buffer) c.write_refused.ensures
