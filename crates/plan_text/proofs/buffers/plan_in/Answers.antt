use Rattle.std.proofs.lemmas.Result.{err_from_is_err_and}
use Rattle.plan_text.proofs.Answers.{prefix_few, read_unformed, read_unranked, read_most, read_tables, unread}
use mathlib.Core.Path.{sym, ◌∙◌}
use native.Mathlib.Omega.{arith}
use lib.Seq.{length-take-le}
use Rattle.plan_text.proofs.buffers.plan_in.Goals as goal

pub returns-in_err-ranks : goal.returns-in_err-ranks
returns-in_err-ranks c =
    let p = err_from_is_err_and c.from_residual.result c.from_residual.ensures.1 in
    let u = unread _ c.in_err-ranks.ensures.value in
    rw (p.1, p.2, u.1) (read_unformed (rw u.0 at c.read_input.ensures) _)

pub returns-then-not-plan_ranks_ok : goal.returns-then-not-plan_ranks_ok
returns-then-not-plan_ranks_ok c = read_unranked (rw c.in_ok-ranks.ensures.ok_part at c.read_input.ensures) _ (sym c.plan_ranks_ok.ensures ∙ c.if-not-plan_ranks_ok.true)

pub overflow_add-end : goal.overflow_add-end
overflow_add-end c = omega (arith, read_most (rw c.in_ok-ranks.ensures.ok_part at c.read_input.ensures) (sym c.plan_ranks_ok.ensures ∙ c.if-not-plan_ranks_ok.false))

pub overflow_mul-end : goal.overflow_mul-end
overflow_mul-end c = omega (arith, read_most (rw c.in_ok-ranks.ensures.ok_part at c.read_input.ensures) (sym c.plan_ranks_ok.ensures ∙ c.if-not-plan_ranks_ok.false))

pub slice_bounds-plan_tables-end : goal.slice_bounds-plan_tables-end
slice_bounds-plan_tables-end c = omega (arith, read_most (rw c.in_ok-ranks.ensures.ok_part at c.read_input.ensures) (sym c.plan_ranks_ok.ensures ∙ c.if-not-plan_ranks_ok.false))

pub slice_bounds-plan_tables-end-3 : goal.slice_bounds-plan_tables-end-3
slice_bounds-plan_tables-end-3 c = omega (arith, read_most (rw c.in_ok-ranks.ensures.ok_part at c.read_input.ensures) (sym c.plan_ranks_ok.ensures ∙ c.if-not-plan_ranks_ok.false))

pub slice_bounds-plan_tables-end-2 : goal.slice_bounds-plan_tables-end-2
slice_bounds-plan_tables-end-2 c = let m = read_most (rw c.in_ok-ranks.ensures.ok_part at c.read_input.ensures) (sym c.plan_ranks_ok.ensures ∙ c.if-not-plan_ranks_ok.false) in sym (length-take-le _ _ (omega arith))

pub slice_bounds-plan_tables-end-4 : goal.slice_bounds-plan_tables-end-4
slice_bounds-plan_tables-end-4 c = let m = read_most (rw c.in_ok-ranks.ensures.ok_part at c.read_input.ensures) (sym c.plan_ranks_ok.ensures ∙ c.if-not-plan_ranks_ok.false) in sym (length-take-le _ _ (omega arith))

pub plan_tables-requires : goal.plan_tables-requires
plan_tables-requires c = let m = read_most (rw c.in_ok-ranks.ensures.ok_part at c.read_input.ensures) (sym c.plan_ranks_ok.ensures ∙ c.if-not-plan_ranks_ok.false) in prefix_few _ _ (omega arith) m

pub returns : goal.returns
returns c = c.plan_tables.ensures ∙ read_tables (rw c.in_ok-ranks.ensures.ok_part at c.read_input.ensures) (sym c.plan_ranks_ok.ensures ∙ c.if-not-plan_ranks_ok.false) _ c.requires.0 c.requires.1
