use mathlib.Core.Path.{sym}
use native.Mathlib.Omega.{arith}
use Rattle.plan_write.proofs.Writing.{decimal_one, decimal_more, put_as, put_then, fits_as, fits_tenth, fits_first, fits_next}
use Rattle.plan_write.proofs.put.+put_decimal.Goals as goal

pub put_byte-requires : goal.put_byte-requires
put_byte-requires t c = fits_as (decimal_one _ c.if-n-lt10.true) c.requires.fits

pub returns-then-n-lt10 : goal.returns-then-n-lt10
returns-then-n-lt10 t c = put_as (sym (decimal_one _ c.if-n-lt10.true)) c.put_byte.ensures

pub put_decimal-next-requires : goal.put_decimal-next-requires
put_decimal-next-requires t c =
    let r = c.requires in
    let h = c.if-n-lt10.false in
    (omega (arith, c.decreases), record { small = omega (arith, r.small); fits = fits_first _ _ (fits_tenth h r) })

pub put_byte-requires-2 : goal.put_byte-requires-2
put_byte-requires-2 t c = fits_next c.put_decimal-next.ensures _ (fits_tenth c.if-n-lt10.false c.requires)

pub returns : goal.returns
returns t c =
    let r = c.requires in
    let h = c.if-n-lt10.false in
    put_as (sym (decimal_more _ h r.small)) (put_then c.put_decimal-next.ensures _ (fits_tenth h r) c.put_byte-2.ensures)
