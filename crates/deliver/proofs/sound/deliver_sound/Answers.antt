use Rattle.std.proofs.lemmas.Result.{err_from_is_err_and}
use mathlib.Core.Path.{refl}
use Rattle.encoding.proofs.Refusals.{number_positive}
use Rattle.deliver.proofs.Written.{deliver_refused, deliver_accepted}
use Rattle.deliver.proofs.sound.deliver_sound.Goals as goal

pub returns-in_err-check_delivery : goal.returns-in_err-check_delivery
returns-in_err-check_delivery c =
    let p = err_from_is_err_and c.from_residual.result c.from_residual.ensures.1 in
    rw (p.1, p.2) (deliver_refused _ _ c.in_err-check_delivery.ensures (number_positive _))

pub returns : goal.returns
returns c = deliver_accepted _ _ c.in_ok-check_delivery.ensures refl c.write_delivery.ensures
