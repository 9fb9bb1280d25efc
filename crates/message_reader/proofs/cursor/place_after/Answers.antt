use native.Mathlib.Omega.{arith}
use mathlib.Core.Path.{sym, ap, ◌∙◌}
use lib.ListN.{length}
use borrow.Author.Tests.{eqb-true, eqb-false}
use Rattle.message_reader.proofs.Handed.{count_short, place_next, place_last, empty_past, filled_below}
use Rattle.message_reader.proofs.cursor.place_after.Goals as goal

pub returns-then-is_empty : goal.returns-then-is_empty
returns-then-is_empty c = sym (place_last _ _ (empty_past _ _ (ap length (sym c.record_at.ensures) ∙ eqb-true _ _ (sym c.is_empty.ensures ∙ c.if-is_empty.true))))

pub overflow_add-result : goal.overflow_add-result
overflow_add-result c =
    record { fits = omega (arith, count_short c.args.message.now, filled_below _ _ (λ e. eqb-false _ _ (sym c.is_empty.ensures ∙ c.if-is_empty.false) (ap length c.record_at.ensures ∙ e))) }

pub returns : goal.returns
returns c = sym (place_next _ _ (filled_below _ _ (λ e. eqb-false _ _ (sym c.is_empty.ensures ∙ c.if-is_empty.false) (ap length c.record_at.ensures ∙ e))))
