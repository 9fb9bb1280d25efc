use Rattle.plan_write.proofs.Writing.{fits_first, fits_next, put_then}
use Rattle.plan_write.specs.Means.{number_text}
use Rattle.plan_write.proofs.put.put_number.Goals as goal

pub put_decimal-next-requires : goal.put_decimal-next-requires
unfolding number_text
put_decimal-next-requires c = record { small = c.requires.small; fits = fits_first _ _ c.requires.fits }

pub put_byte-requires : goal.put_byte-requires
unfolding number_text
put_byte-requires c = fits_next c.put_decimal-next.ensures _ c.requires.fits

pub returns : goal.returns
unfolding number_text
returns c =
    let put_decimal = c.put_decimal-next in
    let pre = c.requires in
    let put_byte = c.put_byte in
    put_then put_decimal.ensures _ pre.fits put_byte.ensures
