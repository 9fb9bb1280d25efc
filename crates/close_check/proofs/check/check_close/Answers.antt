use Rattle.std.proofs.lemmas.Result.{err_from_is_err_and}
use Rattle.encoding.proofs.Refusals.{number_positive}
use Rattle.close_check.proofs.Checks.{early_refused, complete, refused_join, not_refused}
use mathlib.Core.Path.{refl, sym, ◌∙◌}
use Rattle.close_check.proofs.check.check_close.Goals as goal

pub returns-in_err-check_early : goal.returns-in_err-check_early
returns-in_err-check_early c =
    let p = err_from_is_err_and c.from_residual.result c.from_residual.ensures.1 in
    rw (p.1, p.2) (early_refused _ c.in_err-check_early.ensures (number_positive _))

pub join_sound-requires : goal.join_sound-requires
join_sound-requires c = complete _ c.in_ok-check_early.ensures (λ i. (c.type_inv.area i).fits) refl

pub returns-then-not-join_sound : goal.returns-then-not-join_sound
returns-then-not-join_sound c =
    let k = complete _ c.in_ok-check_early.ensures (λ i. (c.type_inv.area i).fits) refl in
    refused_join _ k.sound k.all (λ i. (c.type_inv.area i).fits) (sym c.join_sound.ensures ∙ c.if-not-join_sound.true)

pub returns : goal.returns
returns c =
    let k = complete _ c.in_ok-check_early.ensures (λ i. (c.type_inv.area i).fits) refl in
    not_refused _ k.sound k.all (λ i. (c.type_inv.area i).fits) (sym c.join_sound.ensures ∙ c.if-not-join_sound.false)
