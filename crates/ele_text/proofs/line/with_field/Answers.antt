use mathlib.Core.Path.{sym, ◌∙◌}
use native.Mathlib.Omega.{arith}
use borrow.Author.Tests.{eqb-true, eqb-false}
use Rattle.ele_text.proofs.Rows.{field_none, field_over, field_refused, field_taken}
use Rattle.ele_text.proofs.line.with_field.Goals as goal

pub returns-then-is_empty : goal.returns-then-is_empty
returns-then-is_empty c = (field_none _ _ (eqb-true _ _ (sym c.is_empty.ensures ∙ c.if-is_empty.true)), c.requires)

pub returns-then-r-ge4 : goal.returns-then-r-ge4
returns-then-r-ge4 c = (field_over _ _ (eqb-false _ _ (sym c.is_empty.ensures ∙ c.if-is_empty.false)) c.if-r-ge4.true, tt)

pub returns-in_err-d : goal.returns-in_err-d
returns-in_err-d c =
    rw c.from_residual.ensures (field_refused _ _ (eqb-false _ _ (sym c.is_empty.ensures ∙ c.if-is_empty.false)) c.in_err-d.ensures, tt)

pub returns : goal.returns
returns c = (field_taken _ _ (eqb-false _ _ (sym c.is_empty.ensures ∙ c.if-is_empty.false)) _ c.if-r-ge4.false c.in_ok-d.ensures, omega arith)
