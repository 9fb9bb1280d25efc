use Rattle.std.proofs.lemmas.Result.{err_from_is_err_and}
use mathlib.Core.Path.{refl}
use Rattle.encoding.proofs.Refusals.{number_positive}
use Rattle.close.proofs.Lengths.{length_refused_lem, read_long, length_read}
use Rattle.close.proofs.part_of_area_length.Goals as goal

pub returns-in_err-check_close : goal.returns-in_err-check_close
returns-in_err-check_close c =
    let p = err_from_is_err_and c.from_residual.result c.from_residual.ensures.1 in
    rw (p.1, p.2) (length_refused_lem _ (λ i. (c.type_inv.area i).fits) c.in_err-check_close.ensures (number_positive _))

pub count-count-requires : goal.count-count-requires
count-count-requires c = read_long _ (λ i. (c.type_inv.area i).fits) c.in_ok-check_close.ensures refl

pub ghosts-requires : goal.ghosts-requires
ghosts-requires c = read_long _ (λ i. (c.type_inv.area i).fits) c.in_ok-check_close.ensures refl

pub returns : goal.returns
returns c = length_read _ (λ i. (c.type_inv.area i).fits) c.in_ok-check_close.ensures refl c.count-count.ensures c.ghosts.ensures c.ghost_at.ensures
