use Rattle.std.proofs.lemmas.Result.{err_from_is_err_and}
use Rattle.encoding.proofs.Refusals.{number_positive}
use mathlib.Core.Path.{refl}
use mathlib.Core.Path.{◌∙◌, sym}
use Rattle.part.proofs.Checks.{rank_known}
use Rattle.restart.proofs.Checks.{empty_rank, empty_dimension, empty_last}
use Rattle.restart.proofs.check.check_empty.Goals as goal

pub returns-in_err-check_rank : goal.returns-in_err-check_rank
returns-in_err-check_rank c =
    let p = err_from_is_err_and c.from_residual.result c.from_residual.ensures.1 in
    rw (p.1, p.2) (empty_rank _ _ _ c.in_err-check_rank.ensures (number_positive _))

pub returns-then-not-dimension_ok : goal.returns-then-not-dimension_ok
returns-then-not-dimension_ok c =
    let dimension_ok_call = c.dimension_ok in
    empty_dimension _ _ _ c.in_ok-check_rank.ensures refl dimension_ok_call.ensures (c.if-not-dimension_ok.true)

pub is_empty-requires : goal.is_empty-requires
is_empty-requires c = rank_known _ _ c.in_ok-check_rank.ensures refl

pub returns-then-not-is_empty : goal.returns-then-not-is_empty
returns-then-not-is_empty c =
    let dimension_ok_call = c.dimension_ok in
    let if2 = c.if-not-dimension_ok in
    let is-empty = c.is_empty in
    empty_last _ _ _ c.in_ok-check_rank.ensures refl dimension_ok_call.ensures (if2.false) (sym (c.if-not-is_empty.true) ∙ is-empty.ensures)

pub returns : goal.returns
returns c =
    let dimension_ok_call = c.dimension_ok in
    let if2 = c.if-not-dimension_ok in
    let is-empty = c.is_empty in
    empty_last _ _ _ c.in_ok-check_rank.ensures refl dimension_ok_call.ensures (if2.false) (sym (c.if-not-is_empty.false) ∙ is-empty.ensures)
