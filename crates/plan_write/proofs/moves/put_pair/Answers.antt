use Rattle.plan_write.proofs.Writing.{pair_none, put_as, put_none, fits_as}
use mathlib.Core.Path.{sym}
use Rattle.plan_write.proofs.moves.put_pair.Goals as goal

pub returns-in-None : goal.returns-in-None
returns-in-None c = put_as (sym (pair_none _ _ _ _ c.in-None.ensures)) (put_none _ _)

pub put_row-requires : goal.put_row-requires
put_row-requires c = record { small = c.in-Some.ensures.small; fits = fits_as c.in-Some.ensures.row c.requires.fits }

pub returns-in-Some : goal.returns-in-Some
returns-in-Some c = put_as (sym c.in-Some.ensures.row) c.put_row.ensures
